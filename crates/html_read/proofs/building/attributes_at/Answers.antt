use Rattle.std.proofs.Common.{◌≤◌, length, ◌+◌, sym, ap, subst, arith}
use Rattle.std.proofs.lemmas.List.{take_rest, length-drop}
use Rattle.html_read.proofs.BuildingLemmas.{Left, all_left, attribute_more, attributes_end}
use Rattle.html_read.proofs.building.attributes_at.Goals as goal

pub attributes-init : goal.attributes-init
attributes-init c = record {
  within = omega arith;
  left = λ all more h ends e. subst (λ f. Left c.args.bytes.now f 0 all more) (sym c.new-attributes.ensures) (all_left c.args.bytes.now all more h e);
}

pub attributes-preserved : goal.attributes-preserved
attributes-preserved c =
    let w = rw c.in-Some.is at c.in_ok-attribute.ensures.within in
    let inside : c.attributes.at ≤ length c.args.bytes.now = c.attributes.invariant.within in
    let rest = take_rest c.args.bytes.now c.attributes.at in
    record {
      within = omega (arith, w.1, ap length rest, length-drop c.attributes.at c.args.bytes.now);
      left = λ all more h ends e. subst (λ f. Left c.args.bytes.now f (c.attributes.at + c.in-Some.len) all more) (sym c.in_ok-push.ensures.ok)
          (attribute_more c.args.bytes.now _ c.attributes.attributes all c.attributes.at c.in-Some.len more c.in-Some.attribute c.in_ok-attribute.field-0
          (c.attributes.invariant.left all more h ends e) ends rest c.in_ok-attribute.ensures.found c.in_ok-attribute.ensures.none c.in-Some.is);
    }

pub returns-clause-found : goal.returns-clause-found
returns-clause-found c attributes more h ends e =
    attributes_end c.args.bytes.now _ c.attributes.attributes attributes c.attributes.at more c.in_ok-attribute.field-0
    (c.attributes.invariant.left attributes more h ends e) ends (take_rest c.args.bytes.now c.attributes.at) c.in_ok-attribute.ensures.found c.in_default.is
