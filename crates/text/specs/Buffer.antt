-- Writing a text into a lent buffer. Assumes nothing.
use Rattle.std.specs.Prelude.{ℕ, ◌+◌, ◌≡◌, cond, List, [], ◌∷◌, ◌++◌, ltb, length, drop, set}
use Rattle.text.specs.declared.writing.Text.{Text}
use Rattle.io.specs.Counts.{IsPrefixLen}
use Rattle.text.specs.Lines.{part}

-- a buffer's bytes, and how many of them are written
pub record Buffer : Type 0 where
  pub bytes : List ℕ
  pub count : ℕ

abbrev pub buffer : List ℕ → ℕ → Buffer
buffer bytes count = record { bytes = bytes; count = count }

-- the bytes written
abbrev pub kept : Buffer → List ℕ
kept b = part b.bytes 0 b.count

-- a byte behind those written, if there is room
unfoldable pub put_byte : Buffer → ℕ → Buffer
put_byte b x = cond (ltb b.count (length b.bytes)) (buffer (set b.bytes b.count x) (b.count + 1)) b

-- a text behind them, as much of it as there is room for
unfoldable pub put_text : Buffer → List ℕ → Buffer
put_text b [] = b
put_text b (x ∷ t) = put_text (put_byte b x) t

-- a buffer whose first bytes are the text; later ones stay
unfoldable pub filled : List ℕ → List ℕ → List ℕ
filled bytes t = t ++ drop (length t) bytes

-- What a function that fills a buffer with a text ensures: the count is the text's length, and the bytes are these. The last part follows
-- from the others; it stands here since a caller that lends on the first `count` bytes has to show it.
pub record TextFilled (before text : List ℕ) (count : ℕ) (after : List ℕ) : Type 0 where
  pub number : count ≡ length text
  pub written : after ≡ filled before text
  pub counts : IsPrefixLen count after

-- what is written of a text, and its room
abbrev pub written : Text → Buffer
written t = buffer t.buffer.now t.count

-- What a call that writes behind a text ensures: the text has the same lent buffer, and this stands behind what it had.
pub record Appends (before : Text) (t : List ℕ) (after : Text) : Type 0 where
  pub same_buffer : after.buffer.ghost_name ≡ before.buffer.ghost_name
  pub bytes : written after ≡ put_text (written before) t
