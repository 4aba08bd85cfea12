use Rattle.std.specs.String.{string_bytes}
use Rattle.jsx_print.proofs.StepLemmas.{on_ok, host_step, call_step, suspense_step}
use Rattle.jsx_print.proofs.node.+nodes.Goals as goal

pub push_node-returns-in_ok-push_tag-in-Host : goal.push_node-returns-in_ok-push_tag-in-Host
push_node-returns-in_ok-push_tag-in-Host t c =
    on_ok c.push_rest.result
    (host_step (string_bytes c.args.out.now) (string_bytes c.push_tag.new.out) (string_bytes c.push_rest.new.out) c.args.node.now
    c.in-Host.name c.in-Host.props c.as_slice-in-Host.result.now c.in-Host.kids c.as_slice-in-Host-2.result.now
    c.in-Host.is c.as_slice-in-Host.ensures c.as_slice-in-Host-2.ensures c.in_ok-push_tag-in-Host.ensures)
    c.push_rest.ensures

pub push_node-returns-in_ok-push_tag-in-Call : goal.push_node-returns-in_ok-push_tag-in-Call
push_node-returns-in_ok-push_tag-in-Call t c =
    on_ok c.push_sign.result
    (call_step (string_bytes c.args.out.now) (string_bytes c.push_tag-in-Call.new.out) (string_bytes c.push_sign.new.out) c.args.node.now
    c.in-Call.name c.in-Call.props c.as_slice-in-Call.result.now
    c.in-Call.is c.as_slice-in-Call.ensures c.in_ok-push_tag-in-Call.ensures)
    c.push_sign.ensures

pub push_node-returns-in_ok-push_tag-in-Suspense : goal.push_node-returns-in_ok-push_tag-in-Suspense
push_node-returns-in_ok-push_tag-in-Suspense t c =
    on_ok c.push_rest-in-Suspense.result
    (suspense_step (string_bytes c.args.out.now) (string_bytes c.push_tag-in-Suspense.new.out) (string_bytes c.push_rest-in-Suspense.new.out) c.args.node.now
    c.in-Suspense.name c.in-Suspense.props c.as_slice-in-Suspense.result.now c.in-Suspense.kids c.as_slice-in-Suspense-2.result.now
    c.in-Suspense.is c.as_slice-in-Suspense.ensures c.as_slice-in-Suspense-2.ensures c.in_ok-push_tag-in-Suspense.ensures)
    c.push_rest-in-Suspense.ensures
