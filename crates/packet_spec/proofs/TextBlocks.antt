-- Whether every block is text: block by block; and a payload of ASCII, wherever its blocks part.
use Prim.Native.Nat.{ℕ}
use mathlib.Core.Path.{◌≡◌, ◌∙◌, ap, sym}
use mathlib.Core.List.{List, [], ◌∷◌}
use mathlib.Core.Bool.{true, ◌&&◌}
use lib.ListN.{take, drop}
use lib.Seq.{drop-drop}
use Rattle.base.specs.Every.{Every}
use Rattle.base.proofs.EveryLaws.{every_take, every_drop}
use Rattle.packet_spec.specs.Redundancy.{Head, total, older_of, blocks_of, all_text, are_text}
use Rattle.text_spec.specs.Utf8.{is_text}
use Rattle.text_spec.proofs.Ascii.{Ascii, ascii_text}

-- the first block and the rest
pub text_first : (h : Head) (hs : List Head) (s : List ℕ) → are_text (h ∷ hs) s ≡ (is_text (take h.len s) && are_text hs (drop h.len s))
text_first h hs s =
    ap (λ (q : List ℕ). is_text (take h.len s) && all_text (blocks_of (older_of hs (drop h.len s)) q)) (sym (drop-drop (total hs) h.len s))

pub ascii_blocks : (hs : List Head) (s : List ℕ) → Every Ascii s → are_text hs s ≡ true
ascii_blocks [] s e = rw (ascii_text s e)
ascii_blocks (h ∷ hs) s e =
    text_first h hs s
    ∙ rw (ascii_text (take h.len s) (every_take Ascii h.len s e)) (ascii_blocks hs (drop h.len s) (every_drop Ascii h.len s e))
