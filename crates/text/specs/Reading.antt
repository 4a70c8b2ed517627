-- How much reading gave. Assumes nothing.
use Rattle.std.specs.Prelude.{ℕ, Result, Ok, Err}
use Rattle.text.specs.declared.reading.ReadFailed.{ReadFailed}

-- the bytes that were read, whether or not a read failed
abbrev pub bytes_read : Result ℕ ReadFailed → ℕ
bytes_read (Ok n) = n
bytes_read (Err f) = f.count
