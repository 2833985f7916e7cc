-- `tool::last::lasts`: the set has the keys from i on, and of each of these it is known whether it is the last.
use Rattle.std.proofs.Common.{◌≡◌, ℕ, ◌<◌, ◌≤◌, false, length, get_or, drop, vec_len, eqb}
use Rattle.std.specs.HashSet.{contains}
use Rattle.tool.specs.Last.{member, is_last}
use Rattle.tool.proofs.last.lasts.Given as goal

abbrev pub invariant-loop-i : goal.invariant-loop-i
invariant-loop-i l = record {
  as_long : vec_len l.lasts ≡ length l.keys;
  has : (q : ℕ) → contains eqb l.later q ≡ member q (drop l.i l.keys);
  known : (k : ℕ) → l.i ≤ k → k < length l.keys → get_or l.lasts.items k false ≡ is_last l.keys k;
}
