-- The packet types and their names (document 01, "Packets": "Types: 0 DATA, 1 DATA_END, .."). Assumes nothing.
use Rattle.std.specs.Prelude.{List, [], ◌∷◌, ◌++◌, ℕ, ◌-◌, length, get_or, replicate}
use Prim.Native.Char.{code}
use Prim.Native.String.{String}
use Prim.Native.String as text
use Rattle.packet.specs.declared.names.Name.{Name}

-- the bytes of a text of ASCII characters
unfoldable pub bytes_of : String → List ℕ
bytes_of text.[] = []
bytes_of (text.◌∷◌ c cs) = code c ∷ bytes_of cs

-- the names in the order of their types, from 0 on
unfoldable pub names : List String
names =
    "DATA" ∷ "DATA_END" ∷ "LOGIN_RESP"
    ∷ "UPLOAD_CMD" ∷ "UL_GO_RESP" ∷ "UL_ERROR_RESP"
    ∷ "UL_ACK_RESP" ∷ "UL_NAK_RESP" ∷ "DOWNLOAD_CMD"
    ∷ "DL_ERROR_RESP" ∷ "DL_ABORTED_RESP" ∷ "DL_COMPLETED_RESP"
    ∷ "DL_ACK_CMD" ∷ "DL_NAK_CMD" ∷ "DIR_SHORT_CMD"
    ∷ "DIR_LONG_CMD" ∷ "SELECT_CMD" ∷ "SELECT_RESP"
    ∷ []

-- the name of a type; a type above 17 has none
unfoldable pub name_of : ℕ → List ℕ
name_of kind = bytes_of (get_or names kind "")

-- a name in 17 bytes, the length of the longest, with its own length
abbrev pub in17 : List ℕ → List ℕ
in17 name = name ++ replicate (17 - length name) 0

unfoldable pub named : ℕ → Name
named kind = record { bytes = in17 (name_of kind); size = length (name_of kind) }
