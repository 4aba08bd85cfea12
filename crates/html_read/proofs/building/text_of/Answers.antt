use Rattle.html_read.proofs.BuildingLemmas.{no_bad}
use Rattle.html_read.proofs.building.text_of.Goals as goal

-- an escaped text has no bad place
pub returns-in-Err-BadEntity : goal.returns-in-Err-BadEntity
returns-in-Err-BadEntity c text u e = let h = rw c.in-Err-BadEntity.field-0-is at c.in-Err-BadEntity.ensures.refused in absurd (no_bad text c.args.bytes.now c.in-Err-BadEntity.field-0-0 e h)
