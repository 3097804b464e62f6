-- Vertices less edges plus faces.
use Rattle.std.specs.Prelude.{ℤ, pos, ◌+ℤ◌, ◌-ℤ◌}
use Rattle.skin.specs.declared.count.Counts.{Counts}

abbrev pub figure_of : Counts → ℤ
figure_of c = (pos c.vertices -ℤ pos c.edges) +ℤ pos c.faces
