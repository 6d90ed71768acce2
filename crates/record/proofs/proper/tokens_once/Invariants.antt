-- `record::proper::tokens_once` meets its contract: the tokens to come decide.
use Rattle.std.specs.Prelude.{◌≡◌}
use Rattle.policy.specs.Lists.{distinct}
use Rattle.policy.specs.Contract.{eq_tok}
use Rattle.record.specs.Listed.{toks_of}
use Rattle.record.proofs.proper.tokens_once.Given as goal

abbrev pub invariant-loop-t : goal.invariant-loop-t
invariant-loop-t l = distinct eq_tok (toks_of l.todo) ≡ distinct eq_tok (toks_of l.of)
