use Rattle.std.proofs.Common.{◌≡◌, ℕ, ◌≤◌, ◌<◌, true, false, ◌&&◌, ltb, Some, None, Option, MatchOption, sym, ◌∙◌, arith, rules, tests}
use Rattle.std.proofs.lemmas.Iterator.{first_from_Range}
use Rattle.mesh.specs.Count.{leads, Leader}
use Rattle.mesh.proofs.Leaders.{leaders_found}
use Rattle.skin.specs.Skins.{mesh}
use Rattle.skin.specs.Counts.{along}
use Rattle.skin.proofs.Calls.{of_dart}
use Rattle.skin.proofs.leaders.Leading.coming.Goals as goal

-- the test of a search is whether a dart leads
told : (f : ℕ → ℕ) (n a end : ℕ) (o : Option ℕ) → end ≡ n →
    MatchOption o ((k : ℕ) → a ≤ k → k < end → (ltb k n && leads f k) ≡ false)
    (λ h. (a ≤ h) × (h < end) × ((ltb h n && leads f h) ≡ true) × ((k : ℕ) → a ≤ k → k < h → (ltb k n && leads f k) ≡ false)) →
    Leader f n a o
told f n a end None e q = leaders_found f n a None (λ k l r. sym (of_dart n k (leads f k) r) ∙ q k l (omega arith))
told f n a end (Some h) e q =
    let r : h < n = omega (arith, q.1) in
    leaders_found f n a (Some h)
    (q.0, r, sym (of_dart n h (leads f h) r) ∙ q.2, λ k l b. sym (of_dart n k (leads f k) (omega arith)) ∙ q.3 k l b)

pub returns : goal.returns
returns g c =
    let s = c.args.self.now in
    let m = mesh g.S.Skin s.skin.now in
    let f : ℕ → ℕ = along s.ring m in
    told f m.n s.from _ c.find.result c.n.ensures
    (first_from_Range _ _ _ c.find.result (λ h. (ltb h m.n && leads f h) ≡ true) (λ h. (ltb h m.n && leads f h) ≡ false) c.find.ensures.ran
    (λ x q k. search (rules, tests)) (λ x q k. search (rules, tests)))
