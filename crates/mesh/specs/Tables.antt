-- The mesh that three tables tell, and which dart of a mesh is at fault.
use Rattle.std.specs.Prelude.{ℕ, Bool, not, ◌||◌, List, length, Option, ◌==◌, nat_le, nat_lt, slice_index}
use Rattle.mesh.specs.Mesh.{Mesh, turn, ring}
use Rattle.mesh.specs.Smallest.{smallest, else}

-- the mesh that three tables tell
abbrev pub tables : ℕ → List ℕ → List ℕ → List ℕ → Mesh
tables n a b c = record { n = n; next = λ h. slice_index a h; prev = λ h. slice_index b h; twin = λ h. slice_index c h }

-- an entry of h is n or more
abbrev pub outside : Mesh → ℕ → Bool
outside m h = not (nat_lt (m.next h) m.n) || (not (nat_lt (m.prev h) m.n) || not (nat_lt (m.twin h) m.n))

-- an undoing fails at h, or h is its own twin
abbrev pub torn : Mesh → ℕ → Bool
torn m h =
    not (m.prev (m.next h) == h)
    || (not (m.next (m.prev h) == h) || (not (m.twin (m.twin h) == h) || m.twin h == h))

-- the ring of h has over 64 darts
abbrev pub long_ring : (ℕ → ℕ) → ℕ → Bool
long_ring f h = not (nat_le (length (ring f h)) 64)

-- the face ring or the vertex ring of h is over 64
abbrev pub overlong : Mesh → ℕ → Bool
overlong m h = long_ring m.next h || long_ring (turn m) h

-- the smallest dart at fault: first by its entries, then by the undoings, then by its rings
abbrev pub fault_of : Mesh → Option ℕ
fault_of m = else (smallest m.n (outside m)) (else (smallest m.n (torn m)) (smallest m.n (overlong m)))
