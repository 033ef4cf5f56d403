use Rattle.std.proofs.Common.{◌≡◌, length}
use Rattle.near_best.proofs.course.course_along.Given as goal

abbrev pub invariant-loop-segment : goal.invariant-loop-segment
invariant-loop-segment l = record {
  begins : length l.begins.items ≡ l.segment;
  ends : length l.ends.items ≡ l.segment;
}
