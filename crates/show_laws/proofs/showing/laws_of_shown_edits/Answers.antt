use Rattle.show_laws.proofs.ShowsLemmas.{fills, refuses_shows, reveals}
use Rattle.show_laws.proofs.showing.laws_of_shown_edits.Goals as goal

pub returns : goal.returns
returns c = record { fill = fills; complete = reveals; client = refuses_shows }
