-- `drive_form::walk` meets its contract: after s turns the answers of the servers below s are walked. Assumes nothing.
use mathlib.Core.Path.{ap, ◌∙◌}
use native.Mathlib.Omega.{arith}
use Rattle.drive_form.specs.Parts.{walked_to}
use Rattle.drive_form.proofs.Parts.{walked-first, walked_further}
use Rattle.drive_form.proofs.walk.Goals as goal

pub loop-s-init : goal.loop-s-init
loop-s-init c = record { walked = c.at_first-walked.ensures ∙ walked-first _ _; whole = λ h. absurd (omega arith) }

pub loop-s-preserved : goal.loop-s-preserved
loop-s-preserved c = record { walked = rw (c.further-walked.ensures, walked_further, c.loop-s.invariant.walked); whole = λ h. c.type_inv.d.1.1.1.1.1.0.1.0.1 }

pub returns-clause-walked : goal.returns-clause-walked
returns-clause-walked c = c.loop-s.invariant.walked ∙ ap (walked_to _ _) (omega arith)

pub returns-clause-whole : goal.returns-clause-whole
returns-clause-whole c = c.loop-s.invariant.whole (omega arith)
