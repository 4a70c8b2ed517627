-- What the buffer of a line has of it: all of one that can be a command, and of a longer one that it is longer. Assumes nothing.
use Prim.Native.Nat.{ℕ, suc, ◌+◌, ◌-◌, ◌≤◌, ◌<◌}
use mathlib.Core.Path.{◌≡◌, refl, sym, ap, ◌∙◌}
use mathlib.Core.List.{List, [], ◌∷◌, ◌++◌}
use mathlib.Core.Logic.{◌⊎◌, inl, inr, ⊎_elim}
use native.Mathlib.Omega.{arith}
use native.Mathlib.Nat.{eq-or-lt_of_le}
use borrow.Author.Tests.{le-leb, lt-leb, lt-ltb, le-ltb}
use lib.ListN.{length, length-append, length-set, take}
use lib.Seq.{take-suc-set, length-take-le}
use Rattle.text.specs.Lines.{part, said}
use Rattle.text.specs.Buffer.{Buffer, buffer, kept, put_byte}

-- the buffer has the bytes l of a line, which are at most 256, or the line is longer, and so is what the buffer has
pub record Short (b : Buffer) (l : List ℕ) : Type 0 where
  pub count : b.count ≡ length l
  pub few : length l ≤ 256
  pub bytes : take b.count b.bytes ≡ l

pub record Long (b : Buffer) (l : List ℕ) : Type 0 where
  pub count : b.count ≡ 257
  pub many : 257 ≤ length l

pub record Holds (b : Buffer) (l : List ℕ) : Type 0 where
  pub room : length b.bytes ≡ 257
  pub line : Short b l ⊎ Long b l

-- no line yet
pub holds_none : (bytes : List ℕ) → length bytes ≡ 257 → Holds (buffer bytes 0) []
holds_none bytes e = record { room = e; line = inl (record { count = refl; few = omega arith; bytes = refl }) }

-- what is kept of a line
kept_is : (b : Buffer) → length b.bytes ≡ 257 → b.count ≤ 257 → kept b ≡ take b.count b.bytes
unfolding part
kept_is b e h = let z : b.count - 0 ≡ b.count = omega arith in rw (le-leb 0 b.count (omega arith), le-leb b.count (length b.bytes) (omega (arith, e, h)), z) refl

too_long : (l : List ℕ) → 257 ≤ length l → said l ≡ []
unfolding said
too_long l h = rw (lt-leb (length l) 256 (omega (arith, h))) refl

-- it says what the line says
pub kept_says : (b : Buffer) (l : List ℕ) → Holds b l → said (kept b) ≡ said l
kept_says b l h =
    ⊎_elim
    (λ x. let y : Short b l = x in ap said (kept_is b h.room (omega (arith, y.count, y.few)) ∙ y.bytes))
    (λ x. let y : Long b l = x in
    let k = kept_is b h.room (omega (arith, y.count)) in
    let n : length (kept b) ≡ 257 = rw k (length-take-le b.count b.bytes (omega (arith, y.count, h.room)) ∙ y.count) in
    too_long (kept b) (omega (arith, n)) ∙ sym (too_long l y.many))
    h.line

-- one byte more of a line
grown : (l : List ℕ) (x : ℕ) → length (l ++ (x ∷ [])) ≡ length l + 1
grown l x = length-append l (x ∷ [])

more_of_short : (b : Buffer) (l : List ℕ) (x : ℕ) → length b.bytes ≡ 257 → Short b l → Holds (put_byte b x) (l ++ (x ∷ []))
unfolding put_byte
more_of_short b l x e s =
    let fits : b.count < length b.bytes = omega (arith, e, s.count, s.few) in
    let m : b.count + 1 ≡ suc b.count = omega arith in
    rw (lt-ltb b.count (length b.bytes) fits)
    (record {
      room = length-set b.bytes b.count x ∙ e;
      line =
          ⊎_elim
          (λ z. let y : length l ≡ 256 = z in inr (record { count = omega (arith, s.count, y); many = rw (grown l x) (omega (arith, y)) }))
          (λ z. let y : length l < 256 = z in inl (record {
            count = rw (grown l x) (omega (arith, s.count));
            few = rw (grown l x) (omega (arith, y));
            bytes = rw m (take-suc-set b.bytes b.count x fits ∙ ap (λ t. t ++ (x ∷ [])) s.bytes);
          }))
          (eq-or-lt_of_le s.few);
    })

more_of_long : (b : Buffer) (l : List ℕ) (x : ℕ) → length b.bytes ≡ 257 → Long b l → Holds (put_byte b x) (l ++ (x ∷ []))
unfolding put_byte
more_of_long b l x e s =
    rw (le-ltb b.count (length b.bytes) (omega (arith, e, s.count)))
    (record { room = e; line = inr (record { count = s.count; many = rw (grown l x) (omega (arith, s.many)) }) })

pub holds_more : (b : Buffer) (l : List ℕ) (x : ℕ) → Holds b l → Holds (put_byte b x) (l ++ (x ∷ []))
holds_more b l x h = ⊎_elim (more_of_short b l x h.room) (more_of_long b l x h.room) h.line

-- where nothing was read of it the buffer has no bytes, otherwise some
pub count_none : (b : Buffer) → Holds b [] → b.count ≡ 0
count_none b h = ⊎_elim (λ x. let y : Short b [] = x in y.count) (λ x. let y : Long b [] = x in absurd (omega (arith, y.many))) h.line

pub count_some : (b : Buffer) (x : ℕ) (l : List ℕ) → Holds b (x ∷ l) → 0 < b.count
count_some b x l h = ⊎_elim (λ s. let y : Short b (x ∷ l) = s in omega (arith, y.count)) (λ s. let y : Long b (x ∷ l) = s in omega (arith, y.count)) h.line
