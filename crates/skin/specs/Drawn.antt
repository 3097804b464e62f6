-- The mesh that three columns tell.
use Rattle.mesh.specs.Mesh.{Mesh}
use Rattle.mesh.specs.Tables.{tables}
use Rattle.skin.specs.declared.table.columns.Columns.{Columns}

abbrev pub drawn : Columns → Mesh
drawn c = tables c.n c.next.now c.prev.now c.twin.now
