use Rattle.std.proofs.Common.{[], ◌∷◌, ◌++◌, refl, ◌∙◌}
use Rattle.jsx_syntax.proofs.Names.{ends_by}
use Rattle.jsx_syntax.proofs.operand.is_map_after.Goals as goal

pub returns : goal.returns
returns c = c.is_map.ensures ∙ ends_by c.args._front.now (c.args._front.now ++ c.args.last.now ∷ []) c.args.last.now refl
