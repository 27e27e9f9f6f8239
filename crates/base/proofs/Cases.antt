-- Settling a definition by cases from the tests on the way.
use borrow.Author.Tests.{lt-ltb, le-ltb, lt-leb, le-leb, eq-eqb, ne_eqb}
use borrow.Author.Rules.{rules}

pub ruleset cases = (lt-ltb, le-ltb, lt-leb, le-leb, eq-eqb, ne_eqb, rules)
