use Rattle.std.proofs.Common.{◌≡◌, Ok, Err, Result, rules}
use Rattle.skin.specs.declared.fault.Fault.{Fault}
use Rattle.skin.specs.declared.fault.Fault.TheVariants.{Broken}
use Rattle.skin.specs.Verdict.{verdict}
use Rattle.skin.specs.Drawn.{drawn}
use Rattle.mesh.proofs.Judged.{lawful_from_none}
use Rattle.skin.proofs.Adopted.{exact}
use Rattle.skin.proofs.table.TableSkin.new.Goals as goal

pub invariant_of-result : goal.invariant_of-result
invariant_of-result c = record { lawful = ∣ lawful_from_none (drawn c.in_ok-columns.columns) (search rules) (search rules) ∣₁ }

pub returns-in-Some-clause-exact : goal.returns-in-Some-clause-exact
returns-in-Some-clause-exact c =
    let said : ◌≡◌ {A = Result (Unit {0}) Fault} (Err (Broken c.in-Some.h)) (verdict c.args.n c.args.next.now c.args.prev.now c.args.twin.now) = search rules in
    exact c.args.n c.args.next.now c.args.prev.now c.args.twin.now (Err (Broken c.in-Some.h)) said

pub returns-in-None-clause-exact : goal.returns-in-None-clause-exact
returns-in-None-clause-exact c =
    let said : ◌≡◌ {A = Result (Unit {0}) Fault} (Ok tt) (verdict c.args.n c.args.next.now c.args.prev.now c.args.twin.now) = search rules in
    exact c.args.n c.args.next.now c.args.prev.now c.args.twin.now (Ok tt) said
