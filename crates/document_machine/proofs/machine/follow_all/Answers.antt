use Rattle.std.proofs.Common.{◌≡◌, [], ◌++◌, refl, subst, sym, ap, ◌∙◌, arith}
use Rattle.std.proofs.lemmas.List.{append-nil, nil_from_length}
use Rattle.std.proofs.lemmas.Result.{err_from_is_err_and}
use Rattle.document_machine.specs.Documents.{Steps}
use Rattle.document_machine.proofs.Following.{follows_one, stops_at}
use Rattle.document_machine.proofs.machine.follow_all.Goals as goal

pub loop-token-init : goal.loop-token-init
loop-token-init c = record {
  followed = record { steps = refl; whole = sym c.into_iter-token-iterator.ensures.into_iter_gives.0; document = c.requires };
  prefix = refl;
}

pub take-requires : goal.take-requires
take-requires c = c.loop-token.invariant.followed.document

pub loop-token-preserved : goal.loop-token-preserved
loop-token-preserved c = record {
  followed = follows_one c.args.prefix.now c.args.page.now c.loop-token.page c.take.new.self c.args.tokens.items c.loop-token.yielded c.next.new.self.rest.items
      c.loop-token.token-iterator.rest.items c.in-Some.token c.loop-token.invariant.followed c.in-Some.ensures.steps.0 c.in_ok-take.ensures.step c.in_ok-take.ensures.document;
  prefix = refl;
}

pub returns-in_err-take-clause-refused : goal.returns-in_err-take-clause-refused
returns-in_err-take-clause-refused c =
    let p = err_from_is_err_and c.from_residual.result c.from_residual.ensures.1 in
    rw (p.1, p.2) (stops_at c.args.prefix.now c.args.page.now c.loop-token.page c.args.tokens.items c.loop-token.yielded c.next.new.self.rest.items
    c.loop-token.token-iterator.rest.items c.in-Some.token c.in_err-take.field-0.0 c.loop-token.invariant.followed c.in-Some.ensures.steps.0 c.in_err-take.ensures.refused)

pub returns-clause-steps : goal.returns-clause-steps
returns-clause-steps c =
    let none : c.loop-token.token-iterator.rest.items ≡ [] = nil_from_length c.loop-token.token-iterator.rest.items (omega (arith, c.loop-token.token-iterator.rest.ok.0, c.in-None.ensures.steps.0)) in
    let all : c.args.tokens.items ≡ c.loop-token.yielded =
    c.loop-token.invariant.followed.whole ∙ ap (λ r. c.loop-token.yielded ++ r) none ∙ append-nil c.loop-token.yielded in
    subst (λ ts. Steps c.args.prefix.now c.args.page.now ts c.loop-token.page) (sym all) c.loop-token.invariant.followed.steps

pub returns-clause-document : goal.returns-clause-document
returns-clause-document c = c.loop-token.invariant.followed.document
