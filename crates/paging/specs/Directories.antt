-- PAGING BY DIRECTORIES (A1 of document 02): a client that pages may read its newest time in directories, since the header in the directory has the upload
-- time that the page's entry has. Said of the machine of crates/model; that a directory brings these bytes is `DirectoryBrings`
-- (crates/transfers/specs/Directories.antt). Assumes nothing.
use Rattle.std.specs.Prelude.{◌≡◌, Bool, List, [], ◌∷◌, map, ℕ, zero, suc, ◌-◌, length, take, drop}
use Rattle.numbers.specs.Numbers as numbers
use Rattle.header.specs.Items.{fields_of}
use Rattle.header.specs.Header.{header_length}
use Rattle.header.specs.Entries.{long_entry}
use Rattle.equation.specs.Holds.{bytes_of}
use Rattle.calls.specs.Call.{History}
use Rattle.model.specs.State.{Model, empty, session_at}
use Rattle.model.specs.Files.{find}
use Rattle.model.specs.Downlink.{directory_of, next_ten}
use Rattle.model.specs.Step.{run}
use Rattle.steps.specs.Naming.{AllComplete}
use Rattle.paging.specs.Paging.{Entry, entry, time_of, page_in, Clocks}

-- what a client reads in the bytes of a directory: so many headers, one behind the other, each as long as it says itself
unfoldable pub headers_in : ℕ → List ℕ → List (List ℕ)
headers_in zero bytes = []
headers_in (suc n) bytes = long_entry bytes ∷ headers_in n (drop (header_length bytes) bytes)

-- and in each of them its upload times (12h)
unfoldable pub times_in : ℕ → List ℕ → List (List ℕ)
times_in n bytes = map (λ header. map numbers.number (bytes_of 18 (fields_of header))) (headers_in n bytes)

-- files as they are given in a page
abbrev pub entries_of : Model → List ℕ → List Entry
entries_of m ns = map (λ n. entry n (time_of (find n m.files))) ns

-- the entries of the page whose files the next directory of number 0 has: ten from the place on, or all that are left
abbrev pub entries_next : Model → ℕ → List Entry
entries_next m session = take 10 (drop (session_at m (session - 1)).next (page_in m session))

-- one upload time each
abbrev pub times_of : List Entry → List (List ℕ)
times_of es = map (λ e. e.time ∷ []) es

-- For a server of any sizes after any calls with a 32-bit clock: a directory of complete files, long (true) or short, has their upload times
abbrev pub TimesInDirectory : Type 0
TimesInDirectory =
    (blocks places sessions maxsel : ℕ) (h : History) → Clocks h → (long : Bool) (ns : List ℕ)
    → AllComplete (run (empty blocks places sessions maxsel) h).files ns
    → times_in (length ns) (directory_of long ns (run (empty blocks places sessions maxsel) h).files)
    ≡ times_of (entries_of (run (empty blocks places sessions maxsel) h) ns)

-- and that of the next files of the selection has the times of the page's entries
abbrev pub TimesOfPage : Type 0
TimesOfPage =
    (blocks places sessions maxsel : ℕ) (h : History) → Clocks h → (long : Bool) (session : ℕ)
    → times_in (length (entries_next (run (empty blocks places sessions maxsel) h) session))
    (directory_of long (next_ten (session_at (run (empty blocks places sessions maxsel) h) (session - 1)))
    (run (empty blocks places sessions maxsel) h).files)
    ≡ times_of (entries_next (run (empty blocks places sessions maxsel) h) session)
