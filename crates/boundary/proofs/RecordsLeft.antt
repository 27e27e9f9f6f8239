-- The records that a call leaves, by the tests on its answer.
use mathlib.Core.Path.{◌≡◌, refl}
use mathlib.Core.Bool.{not}
use lib.Dec.{T as Holds}
use Rattle.receiver_spec.specs.State.{Receiver}
use Rattle.receiver_spec.specs.Answers.{gives, is_break, is_jump, is_late, refuses, StepAnswer}
use Rattle.receiver_spec.specs.Kinds.{was_refused, was_late}
use Rattle.boundary.specs.declared.ReceiverRecord.{ReceiverRecord}
use Rattle.boundary.specs.declared.Step.{Step}
use Rattle.boundary.specs.Receiving.{lent_record, step_record, step_behind, receiver_behind}

module _ (before : Step) where
  pub step_stays : (a : StepAnswer) → Holds (was_refused a) → step_behind a before ≡ before
  step_stays (refuses n) h = refl
  step_stays (is_late z) h = absurd h
  step_stays (is_jump z) h = absurd h
  step_stays (is_break g) h = absurd h
  step_stays (gives g) h = absurd h

  pub step_told : (a : StepAnswer) → Holds (not (was_refused a)) → step_behind a before ≡ step_record a
  step_told (refuses n) h = absurd h
  step_told (is_late z) h = refl
  step_told (is_jump z) h = refl
  step_told (is_break g) h = refl
  step_told (gives g) h = refl

module _ (r : Receiver) (before : ReceiverRecord) where
  pub refused_stays : (a : StepAnswer) → Holds (was_refused a) → receiver_behind (record { receiver = r; answer = a }) before ≡ before
  refused_stays (refuses n) h = refl
  refused_stays (is_late z) h = absurd h
  refused_stays (is_jump z) h = absurd h
  refused_stays (is_break g) h = absurd h
  refused_stays (gives g) h = absurd h

  pub late_stays : (a : StepAnswer) → Holds (was_late a) → receiver_behind (record { receiver = r; answer = a }) before ≡ before
  late_stays (refuses n) h = absurd h
  late_stays (is_late z) h = refl
  late_stays (is_jump z) h = absurd h
  late_stays (is_break g) h = absurd h
  late_stays (gives g) h = absurd h

  pub moves_on : (a : StepAnswer) → Holds (not (was_refused a)) → Holds (not (was_late a)) → receiver_behind (record { receiver = r; answer = a }) before ≡ lent_record r
  moves_on (refuses n) h k = absurd h
  moves_on (is_late z) h k = absurd k
  moves_on (is_jump z) h k = refl
  moves_on (is_break g) h k = refl
  moves_on (gives g) h k = refl
