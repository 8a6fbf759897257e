-- The codes of the answers (document 01, "Codes"): AH by the document's names, and the AL numbers.
use Rattle.std.specs.Prelude.{ℕ}

abbrev pub success : ℕ
success = 0x00

abbrev pub not_implemented : ℕ
not_implemented = 0x86

abbrev pub read_failure : ℕ
read_failure = 0x92

abbrev pub storage_full : ℕ
storage_full = 0x93

abbrev pub cpu_not_present : ℕ
cpu_not_present = 0x94

abbrev pub invalid_header : ℕ
invalid_header = 0x95

abbrev pub invalid_header_cs : ℕ
invalid_header_cs = 0x96

abbrev pub security_failure : ℕ
security_failure = 0x97

abbrev pub invalid_revision : ℕ
invalid_revision = 0x98

abbrev pub update_num_invalid : ℕ
update_num_invalid = 0x99

abbrev pub not_empty : ℕ
not_empty = 0x9A

-- no AL number is given
abbrev pub none : ℕ
none = 0

-- READ_FAILURE: a bad store; a bad processor list or platform; a destination too short
abbrev pub bad_store : ℕ
bad_store = 1

abbrev pub bad_processors : ℕ
bad_processors = 2

abbrev pub short_destination : ℕ
short_destination = 3

-- STORAGE_FULL: an update that shares is needed (check 7); no run (check 8)
abbrev pub sharing_needed : ℕ
sharing_needed = 4

abbrev pub no_run : ℕ
no_run = 5
