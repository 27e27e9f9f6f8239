-- What a clock call comes to, by what is looked at before the texts.
use Rattle.std.specs.Prelude.{ℕ, Result, Ok, Err, Bool, true, false, cond, [], ◌∷◌, nat_lt}
use Rattle.base.specs.Checks.{◌gives◌, checked}
use Rattle.packet.specs.declared.Refusal.{Refusal}
use Rattle.packet.specs.Refusal.{number}
use Rattle.sender_spec.specs.State as State
use Rattle.sender_spec.specs.Settings.{settings_check}
use Rattle.sender_spec.specs.Packets.{ready_at}
use Rattle.settings.specs.declared.Due.{Due}
use Rattle.settings.specs.declared.Due.TheVariants.{Early, First, Later}

pub data Judgement : Type 0 where
  refuses : ℕ → Judgement
  early : Judgement
  first : Judgement
  later : Judgement

abbrev pub judged : Result Due Refusal → Judgement
judged (Err r) = refuses (number r)
judged (Ok Early) = early
judged (Ok First) = first
judged (Ok Later) = later

-- a packet is due if it has text
abbrev pub ready : Judgement → Bool
ready (refuses n) = false
ready early = false
ready first = true
ready later = true

abbrev pub judgement_of : State.Settings → ℕ → State.Progress → ℕ → Judgement
judgement_of s latest p t =
    checked refuses (settings_check s ∷ nat_lt t latest gives 5 ∷ [])
    (cond (ready_at s.buffering p t) (cond p.sent later first) early)
