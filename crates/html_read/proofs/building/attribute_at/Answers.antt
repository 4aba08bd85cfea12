use Rattle.std.proofs.Common.{◌≡◌, length, ◌+◌, sym, ◌∙◌, ap, arith}
use Rattle.std.proofs.lemmas.Bool.{eqb-true}
use Rattle.html_read.proofs.BuildingLemmas.{none_some, same_some, Parts, attribute_parts, plain_attribute, ValueParts, value_parts, found_value}
use Rattle.html_read.proofs.building.attribute_at.Goals as goal

pub returns-in_default-2-clause-found : goal.returns-in_default-2-clause-found
returns-in_default-2-clause-found c a more h ends e =
    let p : Parts a more c.split_at.result.0.now c.split_at.result.1.now =
    attribute_parts a more c.args.bytes.now c.in-Some.named.now c.split_at.result.0.now c.split_at.result.1.now c.name_len.result h ends e c.in-Some.ensures.cases.1 c.name_len.ensures.value c.split_at.ensures.front c.split_at.ensures.back in
    absurd (none_some c.in_ok-name.field-0 c.split_at.result.0.now c.in_default-2.is (c.in_ok-name.ensures p.utf8))

pub returns-in_default-strip_prefix-clause-found : goal.returns-in_default-strip_prefix-clause-found
returns-in_default-strip_prefix-clause-found c a more h ends e =
    let p : Parts a more c.split_at.result.0.now c.split_at.result.1.now =
    attribute_parts a more c.args.bytes.now c.in-Some.named.now c.split_at.result.0.now c.split_at.result.1.now c.name_len.result h ends e c.in-Some.ensures.cases.1 c.name_len.ensures.value c.split_at.ensures.front c.split_at.ensures.back in
    plain_attribute a.name a.value more c.args.bytes.now c.split_at.result.1.now c.in-Some-2.name ends e p.rest_is
    (same_some c.in_ok-name.field-0 c.in-Some-2.name c.split_at.result.0.now c.in-Some-2.is (c.in_ok-name.ensures p.utf8) ∙ p.name_is) c.in_default-strip_prefix.ensures.cases

pub returns-then-is_empty-clause-found : goal.returns-then-is_empty-clause-found
returns-then-is_empty-clause-found c a more h ends e =
    let p : Parts a more c.split_at.result.0.now c.split_at.result.1.now =
    attribute_parts a more c.args.bytes.now c.in-Some.named.now c.split_at.result.0.now c.split_at.result.1.now c.name_len.result h ends e c.in-Some.ensures.cases.1 c.name_len.ensures.value c.split_at.ensures.front c.split_at.ensures.back in
    let v : ValueParts a more c.split_at-2.result.0.now c.split_at-2.result.1.now =
    value_parts a more c.split_at.result.1.now c.in-Some-strip_prefix.quoted.now c.split_at-2.result.0.now c.split_at-2.result.1.now c.value_len.result h ends p.rest_is c.in-Some-strip_prefix.ensures.cases.0 c.in-Some-strip_prefix.ensures.cases.1
    c.value_len.ensures.value c.split_at-2.ensures.front c.split_at-2.ensures.back in
    let none : length c.split_at-2.result.1.now ≡ 0 = eqb-true _ 0 (sym c.is_empty.ensures ∙ c.if-is_empty.true) in
    let some : length c.split_at-2.result.1.now ≡ length more + 1 = ap length v.left_is ∙ omega arith in absurd (omega arith)

pub returns-in-Some-3-clause-found : goal.returns-in-Some-3-clause-found
returns-in-Some-3-clause-found c a more h ends e =
    let p : Parts a more c.split_at.result.0.now c.split_at.result.1.now =
    attribute_parts a more c.args.bytes.now c.in-Some.named.now c.split_at.result.0.now c.split_at.result.1.now c.name_len.result h ends e c.in-Some.ensures.cases.1 c.name_len.ensures.value c.split_at.ensures.front c.split_at.ensures.back in
    let v : ValueParts a more c.split_at-2.result.0.now c.split_at-2.result.1.now =
    value_parts a more c.split_at.result.1.now c.in-Some-strip_prefix.quoted.now c.split_at-2.result.0.now c.split_at-2.result.1.now c.value_len.result h ends p.rest_is c.in-Some-strip_prefix.ensures.cases.0 c.in-Some-strip_prefix.ensures.cases.1
    c.value_len.ensures.value c.split_at-2.ensures.front c.split_at-2.ensures.back in
    found_value a more c.args.bytes.now c.in-Some-2.name c.in-Some-3.value c.split_at-2.result.1.now v.text e
    (same_some c.in_ok-name.field-0 c.in-Some-2.name c.split_at.result.0.now c.in-Some-2.is (c.in_ok-name.ensures p.utf8) ∙ p.name_is) v.is
    (same_some c.in_ok-value.field-0 c.in-Some-3.value v.text c.in-Some-3.is (c.in_ok-value.ensures v.text v.utf8 v.value_is)) v.left_is

pub returns-in-None-clause-found : goal.returns-in-None-clause-found
returns-in-None-clause-found c a more h ends e =
    let p : Parts a more c.split_at.result.0.now c.split_at.result.1.now =
    attribute_parts a more c.args.bytes.now c.in-Some.named.now c.split_at.result.0.now c.split_at.result.1.now c.name_len.result h ends e c.in-Some.ensures.cases.1 c.name_len.ensures.value c.split_at.ensures.front c.split_at.ensures.back in
    let v : ValueParts a more c.split_at-2.result.0.now c.split_at-2.result.1.now =
    value_parts a more c.split_at.result.1.now c.in-Some-strip_prefix.quoted.now c.split_at-2.result.0.now c.split_at-2.result.1.now c.value_len.result h ends p.rest_is c.in-Some-strip_prefix.ensures.cases.0 c.in-Some-strip_prefix.ensures.cases.1
    c.value_len.ensures.value c.split_at-2.ensures.front c.split_at-2.ensures.back in
    absurd (none_some c.in_ok-value.field-0 v.text c.in-None.is (c.in_ok-value.ensures v.text v.utf8 v.value_is))
