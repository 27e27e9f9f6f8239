-- The source that the exported reader expects, and what the exported text check answers.
use Rattle.std.specs.Prelude.{ℕ, cond, eqb}
use Rattle.text_spec.specs.Utf8.{Text, Characters, Stops}
use Rattle.packet_spec.specs.Header.{Expected, Any, Only}
use Rattle.boundary.specs.declared.TextAnswer.{TextAnswer}

abbrev pub expected_of : ℕ → ℕ → Expected
expected_of expects source = cond (eqb expects 0) Any (Only source)

abbrev pub text_answer : Text → TextAnswer
text_answer (Characters n) = record { is_text = 1; characters = n; place = 0 }
text_answer (Stops at) = record { is_text = 0; characters = 0; place = at }
