-- The names of header items: their ids, and the usual widths of their numbers in bytes, 1 where none is usual. Names are read in letters of either
-- case and written in capitals; no name is the beginning of another. Assumes nothing.
use Rattle.std.specs.Prelude.{Bool, true, false, ◌||◌, cond, List, [], ◌∷◌, map, ℕ, eqb}
use Rattle.std.proofs.Math.Option.{Option, none, some}
use Prim.Native.String.{String}
use Rattle.packet.specs.Names.{bytes_of}
use Rattle.text.specs.Match.{lower}
use Rattle.lines.specs.Commands.{same}

pub record Named : Type 0 where
  pub name : String
  pub id : ℕ
  pub width : ℕ

abbrev pub named : String → ℕ → ℕ → Named
named name id width = record { name = name; id = id; width = width }

-- 10 to 26 hexadecimal are 16 to 38
unfoldable pub items : List Named
items =
    named "FILE_NUMBER" 1 4 ∷ named "FILE_NAME" 2 1 ∷ named "FILE_EXT" 3 1 ∷ named "FILE_SIZE" 4 4
    ∷ named "CREATE_TIME" 5 4 ∷ named "LAST_MODIFIED_TIME" 6 4 ∷ named "SEU_FLAG" 7 1 ∷ named "FILE_TYPE" 8 1
    ∷ named "BODY_CHECKSUM" 9 2 ∷ named "HEADER_CHECKSUM" 10 2 ∷ named "BODY_OFFSET" 11 2
    ∷ named "SOURCE" 16 1 ∷ named "AX25_UPLOADER" 17 1 ∷ named "UPLOAD_TIME" 18 4 ∷ named "DOWNLOAD_COUNT" 19 1
    ∷ named "DESTINATION" 20 1 ∷ named "AX25_DOWNLOADER" 21 1 ∷ named "DOWNLOAD_TIME" 22 4 ∷ named "EXPIRE_TIME" 23 4
    ∷ named "PRIORITY" 24 1 ∷ named "COMPRESSION_TYPE" 25 1 ∷ named "BBS_MESSAGE_TYPE" 32 1 ∷ named "BULLETIN_ID_NUMBER" 33 1
    ∷ named "TITLE" 34 1 ∷ named "KEYWORDS" 35 1 ∷ named "FILE_DESCRIPTION" 36 1 ∷ named "COMPRESSION_DESCRIPTION" 37 1
    ∷ named "USER_FILE_NAME" 38 1 ∷ []

-- a name in small letters
unfoldable pub small : Named → List ℕ
small x = map lower (bytes_of x.name)

-- one text begins with another
unfoldable pub begins_with : List ℕ → List ℕ → Bool
begins_with [] text = true
begins_with (b ∷ bs) [] = false
begins_with (b ∷ bs) (c ∷ text) = cond (eqb b c) (begins_with bs text) false

-- the id that has a name, given in small letters
unfoldable pub id_in : List Named → List ℕ → Option ℕ
id_in [] letters = none
id_in (x ∷ xs) letters = cond (same (small x) letters) (some x.id) (id_in xs letters)

abbrev pub id_named : List ℕ → Option ℕ
id_named letters = id_in items letters

-- some name begins so
unfoldable pub starts_in : List Named → List ℕ → Bool
starts_in [] letters = false
starts_in (x ∷ xs) letters = begins_with letters (small x) || starts_in xs letters

abbrev pub starts_name : List ℕ → Bool
starts_name letters = starts_in items letters

-- the usual width of an id's numbers, however the id is written
unfoldable pub width_in : List Named → ℕ → ℕ
width_in [] id = 1
width_in (x ∷ xs) id = cond (eqb x.id id) x.width (width_in xs id)

abbrev pub usual_width : ℕ → ℕ
usual_width id = width_in items id

-- the name of an id, in capitals
unfoldable pub name_in : List Named → ℕ → Option (List ℕ)
name_in [] id = none
name_in (x ∷ xs) id = cond (eqb x.id id) (some (bytes_of x.name)) (name_in xs id)

abbrev pub name_of : ℕ → Option (List ℕ)
name_of id = name_in items id
