-- Believed: the program's answer stands on these definitions.
-- The pages of help, each by its command's word, and their texts.
use Rattle.std.specs.Prelude.{ℕ, List, [], ◌∷◌, codes}
use Rattle.help_commands.specs.declared.page.Page.{Page}
use Rattle.help_commands.specs.declared.page.Page.TheVariants as page
use Rattle.help_commands.specs.declared.texts.TheConstants.{BUILD_PAGE, COMMANDS_PAGE, CONCEAL_PAGE, CONVERT_PAGE, CUES_PAGE, DECODE_PAGE, DUAL_PAGE, EXPORT_MCC_PAGE, EXPORT_PAGE, FIT_PAGE, HELP_PAGE, IMPORT_MCC_PAGE, IMPORT_PAGE, INSERT_PAGE, LOAD_PAGE, PAIRS_PAGE, SHOW_PAGE, VERIFY_PAGE, VERSION_PAGE, XDS_PAGE, XDS_SHOW_PAGE}

-- the pages on commands
abbrev pub pages : List (List ℕ × Page)
pages =
    (codes "build", page.Build)
    ∷ (codes "pairs", page.Pairs)
    ∷ (codes "cues", page.Cues)
    ∷ (codes "fit", page.Fit)
    ∷ (codes "dual", page.Dual)
    ∷ (codes "xds", page.Xds)
    ∷ (codes "decode", page.Decode)
    ∷ (codes "show", page.Show)
    ∷ (codes "conceal", page.Conceal)
    ∷ (codes "xds-show", page.XdsShow)
    ∷ (codes "verify", page.Verify)
    ∷ (codes "insert", page.Insert)
    ∷ (codes "import", page.Import)
    ∷ (codes "export", page.Export)
    ∷ (codes "import-mcc", page.ImportMcc)
    ∷ (codes "export-mcc", page.ExportMcc)
    ∷ (codes "convert", page.Convert)
    ∷ (codes "load", page.Load)
    ∷ (codes "help", page.Help)
    ∷ (codes "version", page.Version)
    ∷ []

-- the text of a page
abbrev pub page_text : Page → List ℕ
page_text page.Commands = COMMANDS_PAGE.now
page_text page.Build = BUILD_PAGE.now
page_text page.Pairs = PAIRS_PAGE.now
page_text page.Cues = CUES_PAGE.now
page_text page.Fit = FIT_PAGE.now
page_text page.Dual = DUAL_PAGE.now
page_text page.Xds = XDS_PAGE.now
page_text page.Decode = DECODE_PAGE.now
page_text page.Show = SHOW_PAGE.now
page_text page.Conceal = CONCEAL_PAGE.now
page_text page.XdsShow = XDS_SHOW_PAGE.now
page_text page.Verify = VERIFY_PAGE.now
page_text page.Insert = INSERT_PAGE.now
page_text page.Import = IMPORT_PAGE.now
page_text page.Export = EXPORT_PAGE.now
page_text page.ImportMcc = IMPORT_MCC_PAGE.now
page_text page.ExportMcc = EXPORT_MCC_PAGE.now
page_text page.Convert = CONVERT_PAGE.now
page_text page.Load = LOAD_PAGE.now
page_text page.Help = HELP_PAGE.now
page_text page.Version = VERSION_PAGE.now
