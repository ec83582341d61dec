-- What is written, piece by piece.
use Rattle.std.proofs.Common.{◌≡◌, ◌∙◌, ◌++◌, ◌+◌, ◌<◌, get_or, length, take, ap, append_assoc, append-nil, refl, subst, sym, ℕ, List, [], Option}
use Rattle.std.proofs.KnownBytes.{Appends-nil, Appends-trans}
use Rattle.std.proofs.lemmas.List.{flat_map_more, take_more}
use Rattle.std.specs.List.{flat_map}
use Rattle.cc_base.specs.Streams.{PutCause, Puts}
use Rattle.cc_base.specs.declared.streams.Put.{Put}
use Rattle.cc_base.specs.declared.streams.Put.TheVariants as put
use Rattle.cc_base.proofs.Puts.{puts_stop, puts_then}
use Rattle.text_output.specs.Gathered.{Flushes, Gathers, GathersText, IsGathered, answer_of, held_of}
use Rattle.text_output.specs.Pages.{Finishes, HasWrittenText, Page, PutsPiece, Writes, WritesSome}

-- the same text, however it is put together
pub written_same : (start : Option (List ℕ)) (faults : ℕ) (t u : List ℕ) (now : Page) → t ≡ u → HasWrittenText start faults t now → HasWrittenText start faults u now
written_same start faults t u now same has = subst (λ (v : List ℕ). HasWrittenText start faults v now) same has

-- one more piece of some
pub written_more : {A : Type 0} (start : Option (List ℕ)) (faults : ℕ) (f : A → List ℕ) (before : List ℕ) (xs : List A) (i : ℕ) (d : A) (now : Page) → i < length xs
    → HasWrittenText start faults (before ++ flat_map f (take i xs) ++ f (get_or xs i d)) now → HasWrittenText start faults (before ++ flat_map f (take (i + 1) xs)) now
written_more start faults f before xs i d now within =
    written_same start faults _ _ now (flat_map_more f before (take i xs) (get_or xs i d) ∙ ap (λ ys. before ++ flat_map f ys) (sym (take_more xs i d within)))

-- a piece was added to a text that is gathered
pub gathered_more : (a b c : Option (List ℕ)) (r : Put) (before after piece all : List ℕ)
    → IsGathered a b before all → PutsPiece b c before after r piece → GathersText a c after (all ++ piece) r
gathered_more a b c put.Done before after piece all way (more, next, is) = record {
  sent = way.sent ++ more;
  appended = Appends-trans a b c way.sent more way.appended next;
  whole = append_assoc way.sent more after
      ∙ ap (λ rest. way.sent ++ rest) (sym is)
      ∙ sym (append_assoc way.sent before piece)
      ∙ ap (λ front. front ++ piece) way.whole;
}
gathered_more a b c put.Failed before after piece all way failed =
    subst (Puts a c put.Failed) (sym (append_assoc way.sent before piece) ∙ ap (λ front. front ++ piece) way.whole)
    (puts_then a b c put.Failed way.sent (before ++ piece) way.appended failed)

-- a short piece
pub piece_added : (a b : Option (List ℕ)) (r : Put) (before after piece : List ℕ) → Gathers a b before after r piece → PutsPiece a b before after r piece
piece_added a b put.Done before after piece gathers = gathers
piece_added a b put.Failed before after piece failed = puts_stop a b before piece failed

-- a long one, after what was held
pub piece_put : (a b c : Option (List ℕ)) (r : Put) (before after piece : List ℕ) → Flushes a b before after put.Done → Puts b c r piece → PutsPiece a c before after r piece
piece_put a b c put.Done before after piece (flushed, none) next =
    (before ++ piece, Appends-trans a b c before piece flushed next, sym (ap (λ l. (before ++ piece) ++ l) none ∙ append-nil (before ++ piece)))
piece_put a b c put.Failed before after piece (flushed, none) next = puts_then a b c put.Failed before piece flushed next

-- a piece was written
pub piece_written : (start : Option (List ℕ)) (faults : ℕ) (before piece : List ℕ) (old new : Page) (r : Put) → answer_of old.text ≡ put.Done
    → PutsPiece old.written new.written (held_of old.text) (held_of new.text) r piece → PutCause old.faults new.faults r → answer_of new.text ≡ r
    → HasWrittenText start faults before old → HasWrittenText start faults (before ++ piece) new
piece_written start faults before piece old new r was puts cause now has =
    let way : IsGathered start old.written (held_of old.text) before = subst (λ a. GathersText start old.written (held_of old.text) before a) was has.bytes in
    let same : old.faults ≡ faults = subst (λ a. PutCause faults old.faults a) was has.cause in
    record {
      bytes = subst (λ a. GathersText start new.written (held_of new.text) (before ++ piece) a) (sym now)
          (gathered_more start old.written new.written r (held_of old.text) (held_of new.text) piece before way puts);
      cause = subst (λ a. PutCause faults new.faults a) (sym now) (subst (λ n. PutCause n new.faults r) same cause);
    }

-- a flush puts what is held
flushed : (b c : Option (List ℕ)) (held after : List ℕ) (r : Put) → Flushes b c held after r → Puts b c r held
flushed b c held after put.Done flushes = flushes.0
flushed b c held after put.Failed flushes = flushes

-- a text that is begun after what is gathered
pub begun_written : (start : Option (List ℕ)) (all : List ℕ) (now : Page) → answer_of now.text ≡ put.Done → IsGathered start now.written (held_of now.text) all
    → HasWrittenText start now.faults all now
begun_written start all now done way = record {
  bytes = subst (λ a. GathersText start now.written (held_of now.text) all a) (sym done) way;
  cause = subst (λ a. PutCause now.faults now.faults a) (sym done) refl;
}

-- what is held itself
pub held_written : (now : Page) → answer_of now.text ≡ put.Done → HasWrittenText now.written now.faults (held_of now.text) now
held_written now done = begun_written now.written (held_of now.text) now done (record { sent = []; appended = Appends-nil now.written; whole = refl })

-- nothing, and one text after another
pub writes_none : (now : Page) → Writes now now []
writes_none now start faults before has = written_same start faults before (before ++ []) now (sym (append-nil before)) has

pub writes_then : (a b c : Page) (s t : List ℕ) → Writes a b s → Writes b c t → Writes a c (s ++ t)
writes_then a b c s t first next start faults before has =
    written_same start faults ((before ++ s) ++ t) (before ++ (s ++ t)) c (append_assoc before s t) (next start faults (before ++ s) (first start faults before has))

pub writes_same : (a b : Page) (s t : List ℕ) → s ≡ t → Writes a b s → Writes a b t
writes_same a b s t same writes = subst (λ l. Writes a b l) same writes

pub some_then : (a b c : Page) → WritesSome a b → WritesSome b c → WritesSome a c
some_then a b c (s, first) (t, next) = (s ++ t, writes_then a b c s t first next)

pub some_none : (now : Page) → WritesSome now now
some_none now = ([], writes_none now)

-- a put failed only where the count rose, whatever was written
pub some_cause : (old new : Page) → answer_of old.text ≡ put.Done → WritesSome old new → PutCause old.faults new.faults (answer_of new.text)
some_cause old new done (text, writes) = (writes old.written old.faults (held_of old.text) (held_written old done)).cause

-- what is held was put
pub finished : (start : Option (List ℕ)) (before : ℕ) (all : List ℕ) (old : Page) (written : Option (List ℕ)) (faults : ℕ) (after : List ℕ) (r : Put)
    → answer_of old.text ≡ put.Done → Flushes old.written written (held_of old.text) after r → PutCause old.faults faults r → HasWrittenText start before all old
    → Puts start written r all × PutCause before faults r
finished start before all old written faults after r was flushes cause has =
    let way : IsGathered start old.written (held_of old.text) all = subst (λ a. GathersText start old.written (held_of old.text) all a) was has.bytes in
    let same : old.faults ≡ before = subst (λ a. PutCause before old.faults a) was has.cause in (
      subst (λ l. Puts start written r l) way.whole (puts_then start old.written written r way.sent (held_of old.text) way.appended (flushed old.written written (held_of old.text) after r flushes)),
      subst (λ n. PutCause n faults r) same cause,
    )

-- nothing more was put
pub finished_failed : (start : Option (List ℕ)) (before : ℕ) (all : List ℕ) (old : Page) → answer_of old.text ≡ put.Failed → HasWrittenText start before all old
    → Puts start old.written put.Failed all × PutCause before old.faults put.Failed
finished_failed start before all old was has =
    (subst (λ a. GathersText start old.written (held_of old.text) all a) was has.bytes, subst (λ a. PutCause before old.faults a) was has.cause)

-- a text that is written from nothing on, and put
pub put_whole : (a b : Page) (text : List ℕ) (written : Option (List ℕ)) (faults : ℕ) (r : Put) → answer_of a.text ≡ put.Done → held_of a.text ≡ []
    → Writes a b text → Finishes b written faults r → Puts a.written written r text × PutCause a.faults faults r
put_whole a b text written faults r done none writes finishes =
    finishes a.written a.faults text (writes a.written a.faults []
    (begun_written a.written [] a done (record { sent = []; appended = Appends-nil a.written; whole = none })))
