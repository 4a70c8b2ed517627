-- Texts put into a buffer one behind the other, and a text that has room. Assumes nothing.
use Prim.Native.Nat.{ℕ, suc, ◌+◌, ◌≤◌, ◌<◌}
use mathlib.Core.Path.{◌≡◌, refl, sym, ap, ◌∙◌}
use mathlib.Core.List.{List, [], ◌∷◌, ◌++◌}
use native.Mathlib.Omega.{arith}
use borrow.Author.Tests.{lt-ltb}
use lib.ListN.{length, drop, set, length-append, length-set}
use lib.Seq.{sets, sets-eq, take-append_seam}
use Rattle.io.specs.Counts.{IsPrefixLen}
use Rattle.text.specs.Bytes.{join}
use Rattle.text.specs.declared.writing.Text.{Text}
use Rattle.text.specs.Buffer.{Buffer, buffer, put_byte, put_text, filled, TextFilled, written, Appends}

-- a text behind a text
pub put_append : (b : Buffer) (s t : List ℕ) → put_text b (s ++ t) ≡ put_text (put_text b s) t
unfolding put_text
put_append b [] t = refl
put_append b (x ∷ s) t = put_append (put_byte b x) s t

-- texts one behind the other
pub put_join : (b : Buffer) (s : List ℕ) (ss : List (List ℕ)) → put_text b (join (s ∷ ss)) ≡ put_text (put_text b s) (join ss)
unfolding join
put_join b s ss = put_append b s (join ss)

-- a byte that has room
pub put_room : (bytes : List ℕ) (n x : ℕ) (t : List ℕ) → n < length bytes → put_text (buffer bytes n) (x ∷ t) ≡ put_text (buffer (set bytes n x) (n + 1)) t
unfolding put_text put_byte
put_room bytes n x t h = rw (lt-ltb n (length bytes) h) refl

-- a text that has room
put_sets : (t bytes : List ℕ) (n : ℕ) → n + length t ≤ length bytes → put_text (buffer bytes n) t ≡ buffer (sets bytes n t) (n + length t)
unfolding put_text
put_sets [] bytes n h = ap (buffer bytes) (omega arith)
put_sets (x ∷ t) bytes n h =
    let e : n + 1 ≡ suc n = omega arith in
    let f : suc n + length t ≡ n + suc (length t) = omega arith in
    put_room bytes n x t (omega arith)
    ∙ rw (e, put_sets t (set bytes n x) (suc n) (rw length-set (omega arith)), f) refl

-- from the buffer's start
pub put_filled : (bytes t : List ℕ) → length t ≤ length bytes → put_text (buffer bytes 0) t ≡ buffer (filled bytes t) (length t)
unfolding filled
put_filled bytes t h =
    let l : 0 + length t ≤ length bytes = omega arith in
    let e : 0 + length t ≡ length t = omega arith in
    put_sets t bytes 0 l ∙ rw (sets-eq t bytes 0 l, e) refl

counted : (before text : List ℕ) → IsPrefixLen (length text) (filled before text)
unfolding filled
counted before text = (rw (length-append text (drop (length text) before)) (omega arith), rw (take-append_seam text (drop (length text) before)) refl)

-- what is put from the start of a buffer that has room fills it
pub put_fills : (before text after : List ℕ) (n : ℕ) → buffer after n ≡ put_text (buffer before 0) text → length text ≤ length before → TextFilled before text n after
put_fills before text after n e h =
    let f = e ∙ put_filled before text h in
    let m : n ≡ length text = ap (λ (b : Buffer). b.count) f in
    let w : after ≡ filled before text = ap (λ (b : Buffer). b.bytes) f in
    record { number = m; written = w; counts = rw (m, w) (counted before text) }

-- a call after a call
pub appends_none : (t : Text) → Appends t [] t
unfolding put_text
appends_none t = record { same_buffer = refl; bytes = refl }

pub appends_more : (a b c : Text) (s t : List ℕ) → Appends a s b → Appends b t c → Appends a (s ++ t) c
appends_more a b c s t h k =
    record { same_buffer = k.same_buffer ∙ h.same_buffer; bytes = k.bytes ∙ ap (λ w. put_text w t) h.bytes ∙ sym (put_append (written a) s t) }

join_none : join [] ≡ []
unfolding join
join_none = refl

-- calls one after the other, and their texts
pub appends_join : (a b c : Text) (s : List ℕ) (ss : List (List ℕ)) → Appends a s b → Appends b (join ss) c → Appends a (join (s ∷ ss)) c
unfolding join
appends_join a b c s ss h k = appends_more a b c s (join ss) h k

pub appends_last : (a b : Text) (s : List ℕ) → Appends a s b → Appends a (join (s ∷ [])) b
appends_last a b s h = appends_join a b b s [] h (rw join_none (appends_none b))

-- a text that begins in a lent buffer, and has room there, fills it
pub appends_fills : (before text : List ℕ) (a b : Text) → a.buffer.now ≡ before → a.count ≡ 0 → Appends a text b → length text ≤ length before → TextFilled before text b.count b.buffer.now
appends_fills before text a b e n h l = put_fills before text b.buffer.now b.count (rw (e, n) at h.bytes) l
