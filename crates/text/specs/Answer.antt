-- The answer about a text, in the terms of the definition.
use Rattle.std.specs.Prelude.{ℕ, Result, Ok, Err}
use Rattle.text_spec.specs.Utf8.{Text, Characters, Stops}
use Rattle.text.specs.declared.NotText.{NotText}

abbrev pub text_answered : Result ℕ NotText → Text
text_answered (Ok n) = Characters n
text_answered (Err e) = Stops e.place
