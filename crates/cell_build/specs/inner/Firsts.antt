-- The numbers of the first road cells of the links, which are worked out once.
use Rattle.std.specs.Prelude.{◌≡◌, ℕ, ◌<◌, ◌≤◌, List, length}
use Rattle.listed.specs.Below.{table_of}
use Rattle.network_file.specs.declared.raw.RawLink.{RawLink}
use Rattle.cell_build.specs.Link.{cells_below, first_road}

-- the first road cell of each link, of at most 256 cells in all
pub record AreFirsts (links : List RawLink) (firsts : List ℕ) : Type 0 where
  pub some : 0 < length links
  pub few : cells_below links (length links) ≤ 256
  pub each : firsts ≡ table_of (length links) (first_road links)
