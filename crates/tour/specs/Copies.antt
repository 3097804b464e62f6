-- What a skin copied into tables is.
use Rattle.std.specs.Prelude.{ℕ, vec_items}
use Rattle.mesh.specs.Mesh.{Mesh}
use Rattle.mesh.specs.Tables.{tables}
use Rattle.tour.specs.declared.copy.Tables.{Tables}

-- the mesh of the first n places
abbrev pub held : ℕ → Tables → Mesh
held n t = tables n (vec_items t.next) (vec_items t.prev) (vec_items t.twin)
