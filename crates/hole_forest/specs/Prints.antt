-- What was printed so far: for private functions.
use Rattle.std.specs.Prelude.{◌≡◌, Bool, map}
use Rattle.html_print.specs.Sheets.{Printed, Sheet, printed_after}
use Rattle.hole_forest.specs.declared.sheet.Sheet.{Sheet as CodeSheet}
use Rattle.hole_forest.specs.Printing.{Numbered, Printing, cut_of}

abbrev pub printed_in : CodeSheet → Printed Numbered
printed_in sheet = record { out = sheet.out.items; cuts = map cut_of sheet.cuts }

-- Whatever follows, it has been printed up to it.
pub record Prints (printing : Printing) (old new : CodeSheet) : Type 0 where
  pub printed : (more : Bool → Sheet Numbered) → printed_after (printing old.after_text more) (printed_in old)
      ≡ printed_after (more new.after_text) (printed_in new)
