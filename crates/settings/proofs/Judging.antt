-- What a clock call comes to before the texts are looked at, by plain facts.
use Rattle.std.proofs.Common.{◌≡◌, ℕ, ◌-◌, ◌<◌, ◌≤◌, true, false, arith, le-ltb, lt-ltb, ne_eqb, le-leb}
use borrow.Author.Tests.{lt-leb}
use Rattle.sender_spec.specs.State as State
use Rattle.sender_spec.specs.Settings.{settings_number}
use Rattle.settings.specs.Judging.{refuses, early, first, later, judgement_of}

module _ (s : State.Settings) (latest : ℕ) (p : State.Progress) (t : ℕ) (n : ℕ) (e : n ≡ settings_number s) where
  pub judge_settings : 1 ≤ n → judgement_of s latest p t ≡ refuses n
  judge_settings h = rw (← e, ne_eqb n 0 (λ z. omega arith))

  module _ (ok : n ≡ 0) where
    pub judge_5 : t < latest → judgement_of s latest p t ≡ refuses 5
    judge_5 h = rw (← e, ok, lt-ltb t latest h)

    module _ (onward : latest ≤ t) where
      pub judge_first : p.sent ≡ false → judgement_of s latest p t ≡ first
      judge_first h = rw (← e, ok, le-ltb t latest onward, h)

      module _ (sent : p.sent ≡ true) where
        pub judge_later : s.buffering ≤ t - p.last → judgement_of s latest p t ≡ later
        judge_later h = rw (← e, ok, le-ltb t latest onward, sent, le-leb s.buffering (t - p.last) h)

        pub judge_early : t - p.last < s.buffering → judgement_of s latest p t ≡ early
        judge_early h = rw (← e, ok, le-ltb t latest onward, sent, lt-leb s.buffering (t - p.last) h)
