use Rattle.std.proofs.Common.{◌≡◌, ℕ, ◌≤◌, length, ◌∙◌, sym, ap, subst, inl, arith}
use Rattle.std.proofs.lemmas.Iterator.Consumers.{YieldsList-from_first, count_from_yields_List}
use Rattle.mesh.specs.Mesh.{Mesh, Lawful}
use Rattle.mesh.specs.Count.{leads, rings, leaders, Classes}
use Rattle.mesh.proofs.Leads.{count_le}
use Rattle.mesh.proofs.Leaders.{leaders_count}
use Rattle.mesh.proofs.Once.{classes}
use Rattle.skin.specs.Skins.{mesh}
use Rattle.skin.specs.Counts.{along}
use Rattle.skin.proofs.Alongs.{along_rounds}
use Rattle.skin.proofs.count.ring_count.Given as given
use Rattle.skin.proofs.count.ring_count.Goals as goal
use Rattle.skin.proofs.count.ring_count.Goals.{After-count}

counted : (g : given.Over) (c : After-count g) → c.count.result ≡ rings (along c.args.ring (mesh g.S.Skin c.args.skin.now)) (g.S.Skin.n c.args.skin.now)
counted g c =
    let m = mesh g.S.Skin c.args.skin.now in
    let f : ℕ → ℕ = along c.args.ring m in
    count_from_yields_List _ c.count.result c.count.ensures.ran (YieldsList-from_first (λ x. x) _ (leaders f m.n) c.leaders.ensures)
    ∙ leaders_count f m.n

-- there are no more than darts
few : (f : ℕ → ℕ) (m : Mesh) → Lawful m → length (leaders f m.n) ≤ 1048576
few f m l = omega (arith, leaders_count f m.n, count_le (leads f) m.n, l.few)

pub count-requires-clause-fits : goal.count-requires-clause-fits
count-requires-clause-fits g c =
    let m = mesh g.S.Skin c.args.skin.now in
    inl (omega (arith, ap length c.leaders.ensures, few (along c.args.ring m) m (g.S.Skin.lawful c.args.skin.now)))

pub overflow_cast-result : goal.overflow_cast-result
overflow_cast-result g c =
    let m = mesh g.S.Skin c.args.skin.now in
    let f : ℕ → ℕ = along c.args.ring m in
    omega (arith, counted g (goal.at.overflow_cast-result g c).After-count, count_le (leads f) m.n, (g.S.Skin.lawful c.args.skin.now).few)

pub returns : goal.returns
returns g c =
    let m = mesh g.S.Skin c.args.skin.now in
    let f : ℕ → ℕ = along c.args.ring m in
    let r = along_rounds c.args.ring m (g.S.Skin.lawful c.args.skin.now) in
    let e = counted g (goal.at.returns g c).After-count in
    record { answer = e; classes = subst (Classes m.n f) (sym e) (classes m.n f r.below r.short) }
