use Rattle.std.proofs.Common.{◌∙◌, ◌++◌, ◌∷◌, [], ap}
use Rattle.settled_tree.proofs.ShownLemmas.{wait_pushed}
use Rattle.settled_tree.proofs.shell.+failures.Goals as goal

pub push_node_failures-returns-in_ok-push-in-Wait : goal.push_node_failures-returns-in_ok-push-in-Wait
push_node_failures-returns-in_ok-push-in-Wait t c =
    wait_pushed c.args.node.now c.in-Wait.resource c.in-Wait.path c.args.digests.now c.push-in-Wait.new.self c.in-Wait.is
    (c.in_ok-push-in-Wait.ensures.ok ∙ ap (λ d. c.args.digests.now ++ d ∷ []) c.fixed.ensures)
