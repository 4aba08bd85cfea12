use Rattle.std.proofs.Common.{◌≡◌, ◌∙◌, sym, ap, true, Some, get_or, map}
use Rattle.std.specs.Map.{lookup}
use Rattle.std.specs.Str.{bytes_eq}
use Rattle.std.proofs.lemmas.Slice.Eq.{bytes_eq-Decides}
use Rattle.html_names.specs.Rows.{row_of}
use Rattle.html_names.proofs.RowsLemmas.{row_found}
use Rattle.html_names.proofs.names.find_row.Goals as goal

pub returns-then-eq : goal.returns-then-eq
returns-then-eq g c =
    let same : bytes_eq c.args.name.now c.row-item.result.0.now ≡ true =
    ap (bytes_eq c.args.name.now) (sym c.as_bytes.ensures.value) ∙ (sym c.eq.ensures ∙ c.if-eq.true) in
    let there : bytes_eq c.args.name.now (get_or c.args.rows.now c.loop-row.row-index c.row-item.result).0.now ≡ true =
    ap (λ row. bytes_eq c.args.name.now row.0.now) (sym c.row-item.is) ∙ same in
    let row : lookup (bytes_eq c.args.name.now) (map row_of c.args.rows.now) ≡ Some (get_or c.args.rows.now c.loop-row.row-index c.row-item.result).1 =
    row_found row_of c.args.rows.now c.args.name.now c.loop-row.row-index c.row-item.result c.loop-row-test.true c.loop-row.invariant there in
    (sym ((bytes_eq-Decides _ _).0 same), row ∙ ap (λ row. Some row.1) (sym c.row-item.is))
