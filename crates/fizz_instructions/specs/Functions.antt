-- The three functions that a page's scripts call, as React's server renderer has them in its inline instructions.
-- `$RC` puts the content of a boundary into its place, `$RS` puts a segment into the place of its placeholder, and
-- `$RX` marks a boundary that the client is to render.
use Rattle.std.specs.Prelude.{ℕ, List, codes}
use Rattle.fizz_instructions.specs.declared.functions.Function.{Function}
use Rattle.fizz_instructions.specs.declared.functions.Function.TheVariants.{CompleteBoundary, CompleteSegment, ClientRenderBoundary}

unfoldable pub complete_boundary_definition : List ℕ
complete_boundary_definition = codes "$RC=function(b,s){s=document.getElementById(s);s.parentNode.removeChild(s);b=document.getElementById(b);if(b){var o=b.previousSibling,p=o.parentNode,n=b,d=0,t;for(;n;n=t){t=n.nextSibling;if(n.nodeType===8){var x=n.data;if(x===\"/$\"){if(d===0)break;d--}else if(x===\"$\"||x===\"$?\"||x===\"$!\")d++}p.removeChild(n)}for(;s.firstChild;)p.insertBefore(s.firstChild,n);o.data=\"$\"}};"

unfoldable pub complete_segment_definition : List ℕ
complete_segment_definition = codes "$RS=function(s,p){s=document.getElementById(s);p=document.getElementById(p);for(s.parentNode.removeChild(s);s.firstChild;)p.parentNode.insertBefore(s.firstChild,p);p.parentNode.removeChild(p)};"

unfoldable pub client_render_definition : List ℕ
client_render_definition = codes "$RX=function(b,d){b=document.getElementById(b);if(b){b.previousSibling.data=\"$!\";if(d)b.dataset.dgst=d}};"

-- The definition of the function, in ECMAScript, on one line.
abbrev pub definition_of : Function → List ℕ
definition_of CompleteBoundary = complete_boundary_definition
definition_of CompleteSegment = complete_segment_definition
definition_of ClientRenderBoundary = client_render_definition

abbrev pub name_of : Function → List ℕ
name_of CompleteBoundary = codes "$RC"
name_of CompleteSegment = codes "$RS"
name_of ClientRenderBoundary = codes "$RX"
