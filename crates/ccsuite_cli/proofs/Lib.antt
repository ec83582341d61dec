mod CommandLemmas
mod LineLemmas
mod VerdictLemmas
