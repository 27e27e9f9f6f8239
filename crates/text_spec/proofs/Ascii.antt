-- ASCII, the plain letters of 02 (request 3): each byte is a letter of its own, so a run is passed at once, and is text
-- however it is cut.
use Prim.Native.Nat.{ℕ, suc, ◌+◌, ◌<◌, ◌≤◌}
use mathlib.Core.Path.{◌≡◌, ◌∙◌, ap, sym}
use mathlib.Core.List.{List, [], ◌∷◌, ◌++◌, append-nil}
use mathlib.Core.Bool.{true}
use native.Mathlib.Omega.{arith}
use lib.ListN.{length, take, drop, take-append-drop}
use lib.Seq.{drop-drop, length-take-le}
use Rattle.base.specs.Every.{Every}
use Rattle.text_spec.specs.Utf8.{text_from, is_text, well_formed}
use Rattle.text_spec.proofs.Rows.{ascii}
use Rattle.text_spec.proofs.Walks.{text_on, goes_on, goes_anywhere}

abbrev pub Ascii : ℕ → Type 0
Ascii b = b < 0x80

-- a run of it adds a character for each byte, and owes nothing
pub ascii_on : (p s : List ℕ) (n at : ℕ) → Every Ascii p → text_from [] n at (p ++ s) ≡ text_from [] (n + length p) (at + length p) s
ascii_on [] s n at h =
    let e : n ≡ n + 0 = omega arith in
    let f : at ≡ at + 0 = omega arith in
    ap (λ (k : ℕ). text_from [] k at s) e ∙ ap (λ (k : ℕ). text_from [] (n + 0) k s) f
ascii_on (b ∷ p) s n at h =
    let e : n + 1 + length p ≡ n + suc (length p) = omega arith in
    let f : at + 1 + length p ≡ at + suc (length p) = omega arith in
    text_on [] n at b (p ++ s) (ascii b (omega arith)) ∙ ascii_on p s (n + 1) (at + 1) h.1
    ∙ ap (λ (k : ℕ). text_from [] k (at + 1 + length p) s) e
    ∙ ap (λ (k : ℕ). text_from [] (n + suc (length p)) k s) f

pub ascii_goes_on : (p s : List ℕ) → Every Ascii p → goes_on [] (p ++ s) ≡ goes_on [] s
ascii_goes_on p s h = ap well_formed (ascii_on p s 0 0 h) ∙ goes_anywhere s [] (0 + length p) (0 + length p) 0 0

pub ascii_text : (s : List ℕ) → Every Ascii s → is_text s ≡ true
ascii_text s h = ap is_text (sym (append-nil s)) ∙ ascii_goes_on s [] h

-- the same run at a place of a list
pub ascii_at : (s : List ℕ) (n at m : ℕ) → m ≤ length (drop at s) → Every Ascii (take m (drop at s))
    → text_from [] n at (drop at s) ≡ text_from [] (n + m) (at + m) (drop (at + m) s)
ascii_at s n at m l h =
    ap (text_from [] n at) (sym (take-append-drop m (drop at s))) ∙ ascii_on (take m (drop at s)) (drop m (drop at s)) n at h
    ∙ rw (length-take-le m (drop at s) l, drop-drop m at s)
