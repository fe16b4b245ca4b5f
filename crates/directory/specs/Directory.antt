-- The files that a directory names (A1 of document 02): "for one file and for the next files of the selection". Assumes nothing.
use Rattle.std.specs.Prelude.{List, [], ◌∷◌, map, ℕ, ◌-◌, take, drop, Option, Some}
use Rattle.session.specs.declared.state.Listed.{Listed}
use Rattle.session.specs.declared.state.Listed.TheVariants as listed
use Rattle.table.specs.declared.File.{File}
use Rattle.table.specs.Table.{find_of}

-- where they are, in their order; `next` is the session's place in its selection, which an accepted directory moved "past every file it sends"
unfoldable pub found_in : Listed → ℕ → List File → List ℕ → List (Option ℕ)
found_in (listed.One place) next fs selected = Some place ∷ []
found_in (listed.Selected first) next fs selected = map (find_of fs) (take (next - first) (drop first selected))
