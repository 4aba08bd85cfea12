use Rattle.std.proofs.Common.{sym, ◌∙◌}
use Rattle.std.proofs.lemmas.Slice.Eq.{bytes_eq-Decides}
use Rattle.html_read.proofs.BuildingLemmas.{no_tag, start_tag, void_tag, other_tag}
use Rattle.html_read.proofs.WordLemmas.{none_true}
use Rattle.html_read.proofs.building.tag_of.Goals as goal

pub returns-in_default : goal.returns-in_default
returns-in_default c =
    no_tag c.args.bytes.now c.after-named.result.now c.split_at.result.0.now c.split_at.result.1.now c.name_len.result c.args.from c.tag_name.result
    (record { named_is = c.after-named.ensures; n_is = c.name_len.ensures.value; name_is = c.split_at.ensures.front; rest_is = c.split_at.ensures.back; got_is = c.tag_name.ensures }) c.in_default.is

pub returns-then-eq : goal.returns-then-eq
returns-then-eq c =
    start_tag c.args.bytes.now c.after-named.result.now c.split_at.result.0.now c.split_at.result.1.now c.in-Some.name c.after-end.result.now c.in_ok-attributes.attributes c.name_len.result c.in_ok-attributes.len c.args.from c.tag_name.result
    (record { named_is = c.after-named.ensures; n_is = c.name_len.ensures.value; name_is = c.split_at.ensures.front; rest_is = c.split_at.ensures.back; got_is = c.tag_name.ensures }) c.in-Some.is
    c.in_ok-attributes.ensures.found c.after-end.ensures ((bytes_eq-Decides c.after-end.result.now c.as_slice.result.now).0 (sym c.eq.ensures ∙ c.if-eq.true) ∙ c.as_slice.ensures)

pub returns-then-eq-2 : goal.returns-then-eq-2
returns-then-eq-2 c =
    void_tag c.args.bytes.now c.after-named.result.now c.split_at.result.0.now c.split_at.result.1.now c.in-Some.name c.after-end.result.now c.in_ok-attributes.attributes c.name_len.result c.in_ok-attributes.len c.args.from c.tag_name.result
    (record { named_is = c.after-named.ensures; n_is = c.name_len.ensures.value; name_is = c.split_at.ensures.front; rest_is = c.split_at.ensures.back; got_is = c.tag_name.ensures }) c.in-Some.is
    c.in_ok-attributes.ensures.found c.after-end.ensures ((bytes_eq-Decides c.after-end.result.now c.as_slice-else-eq.result.now).0 (sym c.eq-else-eq.ensures ∙ c.if-eq-2.true) ∙ c.as_slice-else-eq.ensures)

pub returns-else-eq-2 : goal.returns-else-eq-2
returns-else-eq-2 c =
    other_tag c.args.bytes.now c.after-named.result.now c.split_at.result.0.now c.split_at.result.1.now c.in-Some.name c.after-end.result.now c.in_ok-attributes.attributes c.name_len.result c.in_ok-attributes.len c.args.from c.tag_name.result
    (record { named_is = c.after-named.ensures; n_is = c.name_len.ensures.value; name_is = c.split_at.ensures.front; rest_is = c.split_at.ensures.back; got_is = c.tag_name.ensures }) c.in-Some.is
    c.in_ok-attributes.ensures.found c.after-end.ensures
    (λ e. none_true (sym (sym c.eq.ensures ∙ c.if-eq.false) ∙ (bytes_eq-Decides c.after-end.result.now c.as_slice.result.now).1 (e ∙ sym c.as_slice.ensures)))
    (λ e. none_true (sym (sym c.eq-else-eq.ensures ∙ c.if-eq-2.false) ∙ (bytes_eq-Decides c.after-end.result.now c.as_slice-else-eq.result.now).1 (e ∙ sym c.as_slice-else-eq.ensures)))
