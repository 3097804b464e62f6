use Rattle.std.proofs.Common.{◌≡◌, cond, eqb, ltb, Some, None, sym, subst, rules}
use Rattle.skin.specs.Skins.{mesh}
use Rattle.skin.specs.Counts.{along}
use Rattle.skin.specs.Orbits.{First}
use Rattle.skin.proofs.Alongs.{along_rounds}
use Rattle.skin.proofs.Orbits.{started, stepped}
use Rattle.skin.proofs.orbit.Darts.coming.Goals as goal

pub returns-in-None : goal.returns-in-None
returns-in-None g c =
    let s = c.args.self.now in
    let m = mesh g.S.Skin s.skin.now in
    let e : c.then_some.result ≡ cond (ltb s.first m.n) (Some s.first) None = search rules in
    let o : s.last ≡ None = search rules in
    subst (λ l. First m.n (along s.ring m) s.first l c.then_some.result) (sym o)
    (started (along_rounds s.ring m (g.S.Skin.lawful s.skin.now)) s.first c.then_some.result e)

pub returns-in-Some : goal.returns-in-Some
returns-in-Some g c =
    let s = c.args.self.now in
    let m = mesh g.S.Skin s.skin.now in
    let f = along s.ring m in
    let d = c.in-Some.c in
    let o : s.last ≡ Some d = search rules in
    let b = s.returns d o in
    let e : c.filter.result ≡ cond (eqb (f d) s.first) None (Some (f d)) = search rules in
    subst (λ l. First m.n f s.first l c.filter.result) (sym o)
    (stepped (along_rounds s.ring m (g.S.Skin.lawful s.skin.now)) s.first d b c.filter.result e)
