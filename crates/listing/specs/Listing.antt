-- A directory on its way (A1 of document 02; document 001, 6.2.1): "the server will transmit one or more PACSAT File Headers in a series of DATA
-- packets". The entries of its files run on, one behind the other, and a DATA takes the next bytes of them. Assumes nothing.
use Rattle.std.specs.Prelude.{Bool, cond, List, [], ◌∷◌, map, ℕ, ◌+◌, ◌-◌, eqb, ltb, length, take, drop, replicate, Option, Some, None}
use Rattle.session.specs.declared.state.Listed.{Listed}
use Rattle.table.specs.declared.File.{File}
use Rattle.table.specs.Table.{file_at}
use Rattle.header.specs.Entries.{running_on}
use Rattle.entries.specs.Entry.{entry_at, put_front}
use Rattle.directory.specs.Directory.{found_in}
use Rattle.listing.specs.declared.Filled.{Filled}

-- ---- the entries

unfoldable pub entry_in : Bool → List ℕ → List ℕ → List File → Option ℕ → List ℕ
entry_in long disk owner fs None = []
entry_in long disk owner fs (Some place) = entry_at long disk owner place (file_at fs place).received

-- those of the files that a directory names, in their order
abbrev pub entries_of : Listed → Bool → ℕ → List ℕ → List ℕ → List File → List ℕ → List (List ℕ)
entries_of listed long next disk owner fs selected = map (entry_in long disk owner fs) (found_in listed next fs selected)

-- ---- how far it has come

-- how many entries lie behind, and how many bytes of the next one
pub record Position : Type 0 where
  pub entry : ℕ
  pub byte : ℕ

abbrev pub position : ℕ → ℕ → Position
position entry byte = record { entry = entry; byte = byte }

abbrev pub behind_one : Position → Position
behind_one p = position (1 + p.entry) p.byte

-- n bytes behind the front of these entries: an entry whose last byte is reached lies behind, and no byte is left past the last entry
unfoldable pub position_at : ℕ → List (List ℕ) → Position
position_at n [] = position 0 0
position_at n (e ∷ es) =
    cond (eqb n 0) (position 0 0) (cond (ltb n (length e)) (position 0 n) (behind_one (position_at (n - length e) es)))

-- ---- the next bytes: "DATA of up to 256 bytes, as full as can be"

-- where `done` entries lie behind and `sent` bytes of the next one
abbrev pub next_bytes : List (List ℕ) → ℕ → ℕ → List ℕ
next_bytes es done sent = take 256 (drop sent (running_on (drop done es)))

-- these bytes with zeros behind them, how many they are, and where the directory has come to then
unfoldable pub fill_of : List (List ℕ) → ℕ → ℕ → Filled
fill_of es done sent =
    record {
      done = done + (position_at (sent + 256) (drop done es)).entry;
      sent = (position_at (sent + 256) (drop done es)).byte;
      size = length (next_bytes es done sent);
      bytes = put_front (next_bytes es done sent) (replicate 256 0);
    }
