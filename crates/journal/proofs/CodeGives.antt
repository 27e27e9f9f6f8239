-- Calls that are answered as their contracts say give the transcript.
use Prim.Native.Nat.{ℕ, ◌≤◌}
use mathlib.Core.Path.{◌≡◌, ◌∙◌, refl, ap, sym, subst}
use mathlib.Core.List.{List, [], ◌++◌}
use mathlib.Core.Bool.{true}
use native.Mathlib.Omega.{arith}
use lib.ListN.{length, take, drop}
use lib.Seq.{take-append_seam}
use Rattle.journal_spec.specs.Contents.{longest_packet}
use Rattle.base.specs.Arrays.{over}
use Rattle.journal.specs.declared.Transcript.{Transcript}
use Rattle.standing.specs.Standing.{Standing, start_standing, stop_of, finished}
use Rattle.standing.specs.Filling.{fill_of}
use Rattle.journal.specs.Ready.{first, standing_of, transcript_ready}
use Rattle.standing.specs.Calls.{TranscriptCall, play}
use Rattle.standing.proofs.Cuts.{cuts}
use Rattle.journal.specs.CodeCalls.{Ran, none, filled, stopped, CodeGives}
use Rattle.journal.proofs.Ready.{does_fill, does_stop, done_is, starts_ready, starts}

given_front : (g x x' : List ℕ) (n : ℕ) → n ≡ length g → x' ≡ over g x → take n x' ≡ g
given_front g x x' n e f = (λ i. take (e i) (f i)) ∙ take-append_seam g (drop (length g) x)

-- where such calls lead
record Led (ks : List TranscriptCall) (c : Standing) (rest given : List ℕ) (s' : Transcript) (p' : List ℕ) : Type 0 where
  still : transcript_ready s' ≡ true
  long : longest_packet ≤ length p'
  gives_all : given ≡ (play ks c rest).given
  stands : standing_of s' p' ≡ (play ks c rest).standing

led : {s : Transcript} {p rest : List ℕ} {ks : List TranscriptCall} {given : List ℕ} {s' : Transcript} {p' rest' : List ℕ}
    → Ran s p rest ks given s' p' rest' → transcript_ready s ≡ true → longest_packet ≤ length p → Led ks (standing_of s p) rest given s' p'
unfolding play
led (none s p rest) ok long = record { still = ok; long = long; gives_all = refl; stands = refl }
led (filled s p rest n y s₁ p₁ y₁ used count {ks} {given} {s'} {p'} t l more) ok long =
    let k = does_fill s p ok long (take n rest) y s₁ p₁ y₁ used count t in
    let w : longest_packet ≤ length p₁ = omega arith in
    let h = led more k.still w in
    let r = fill_of (standing_of s p) (take n rest) (length y) in
    let e : play ks (standing_of s₁ p₁) (drop used rest) ≡ play ks r.standing (drop r.used rest) = λ i. play ks (k.stands i) (drop (k.uses i) rest) in
    record {
      still = h.still;
      long = h.long;
      gives_all =
          ap (λ (g : List ℕ). g ++ given) (given_front r.given y y₁ count k.counts k.bytes)
          ∙ ap (λ (g : List ℕ). r.given ++ g) (h.gives_all ∙ ap (λ q. q.given) e);
      stands = h.stands ∙ ap (λ q. q.standing) e;
    }
led (stopped s p s₁ p₁ {ks} {given} {s'} {p'} t l more) ok long =
    let k = does_stop s p ok long s₁ p₁ t in
    let w : longest_packet ≤ length p₁ = omega arith in
    let h = led more k.still w in
    let e : play ks (standing_of s₁ p₁) [] ≡ play ks (stop_of (standing_of s p)) [] = ap (λ (c : Standing). play ks c []) k.stands in
    record { still = h.still; long = h.long; gives_all = h.gives_all ∙ ap (λ q. q.given) e; stands = h.stands ∙ ap (λ q. q.standing) e }

led_first : {j p : List ℕ} {ks : List TranscriptCall} {given : List ℕ} {s' : Transcript} {p' rest' : List ℕ}
    → Ran first p j ks given s' p' rest' → longest_packet ≤ length p → Led ks start_standing j given s' p'
led_first {j} {p} {ks} {given} {s'} {p'} r long = subst (λ (c : Standing). Led ks c j given s' p') (starts p) (led r starts_ready long)

-- a started transcript is ready and stands at the start, and each call leaves a ready one whose standing `play` says: so what
-- the calls give is a front of the transcript, and all of it once they say that it is done
pub code_gives : CodeGives
code_gives = record {
  front = λ j p ks given s' p' rest' long r.
      let h = led_first r long in
      let c = cuts.front j ks in
      (c.0, c.1 ∙ ap (λ (y : List ℕ). y ++ c.0) (sym h.gives_all));
  whole = λ j p ks given s' p' rest' long r d.
      let h = led_first r long in
      h.gives_all ∙ cuts.whole j ks (ap finished (sym h.stands) ∙ sym (done_is s' p' h.still h.long) ∙ d);
}
