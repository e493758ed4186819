-- Each pair that comes is none of those that came before it, and what goes is a part of what came.
use Rattle.std.proofs.Common.{◌≡◌, ℕ, false, inl, inr, arith}
use Rattle.std.proofs.lemmas.Bool.Decides.{nat_tests}
use Rattle.xr_group.proofs.TestLemmas.{now_has, run_from, still_none}
use Rattle.xr_group.specs.Group.{GroupState}
use Rattle.xr_group.specs.Sets.{AddsPairs, HasNoPairOf, HasPairsOf, has_pair}
use Rattle.xr_group.proofs.tests.give_and_take_owners.Goals as goal

-- what each call adds
abbrev cow : ℕ
cow = 18446744073709551607

module _ (a b : GroupState) (none : (w o x : ℕ) → has_pair a w o x ≡ false) (first : AddsPairs (run_from 512 4) 128 0 a b) where
  none_second : HasNoPairOf b (run_from 514 1) 129 9
  none_second = still_none (run_from 512 4) 128 0 a b first (run_from 514 1) 129 9 (λ w o x is. none w o x) (λ w o x is. grind (arith, nat_tests, is))

  module _ (c : GroupState) (second : AddsPairs (run_from 514 1) 129 9 b c) where
    none_third : HasNoPairOf c (run_from 516 4) 128 4
    none_third = still_none (run_from 514 1) 129 9 b c second (run_from 516 4) 128 4
        (still_none (run_from 512 4) 128 0 a b first (run_from 516 4) 128 4 (λ w o x is. none w o x) (λ w o x is. grind (arith, nat_tests, is)))
        (λ w o x is. grind (arith, nat_tests, is))

    module _ (d : GroupState) (third : AddsPairs (run_from 516 4) 128 4 c d) where
      none_staged : HasNoPairOf d (run_from 600 2) cow 0
      none_staged = still_none (run_from 516 4) 128 4 c d third (run_from 600 2) cow 0
          (still_none (run_from 514 1) 129 9 b c second (run_from 600 2) cow 0
          (still_none (run_from 512 4) 128 0 a b first (run_from 600 2) cow 0 (λ w o x is. none w o x) (λ w o x is. grind (arith, nat_tests, is)))
          (λ w o x is. grind (arith, nat_tests, is)))
          (λ w o x is. grind (arith, nat_tests, is))

      held : (e : GroupState) → AddsPairs (run_from 600 2) cow 0 d e → HasPairsOf e (run_from 513 2) 128 1
      held e staged = now_has (run_from 600 2) cow 0 d e staged (run_from 513 2) 128 1
          (λ w o x is. inl (now_has (run_from 516 4) 128 4 c d third (run_from 513 2) 128 1
          (λ w o x is. inl (now_has (run_from 514 1) 129 9 b c second (run_from 513 2) 128 1
          (λ w o x is. inl (now_has (run_from 512 4) 128 0 a b first (run_from 513 2) 128 1 (λ w o x is. inr (grind (arith, nat_tests, is))) w o x is))
          w o x is))
          w o x is))

pub add-requires-clause-alone : goal.add-requires-clause-alone
add-requires-clause-alone g c w o a is = c.requires.none w o a

pub add-requires-2-clause-alone : goal.add-requires-2-clause-alone
add-requires-2-clause-alone g c =
    rw c.run_of-run-2.ensures.parts
    (none_second c.args.group.now c.add.new.self c.requires.none (rw c.run_of-run.ensures.parts at c.add.ensures.added))

pub add-requires-3-clause-alone : goal.add-requires-3-clause-alone
add-requires-3-clause-alone g c =
    rw c.run_of-run-3.ensures.parts
    (none_third c.args.group.now c.add.new.self c.requires.none (rw c.run_of-run.ensures.parts at c.add.ensures.added)
    c.add-2.new.self (rw c.run_of-run-2.ensures.parts at c.add-2.ensures.added))

pub add-requires-4-clause-alone : goal.add-requires-4-clause-alone
add-requires-4-clause-alone g c =
    rw c.run_of-run-4.ensures.parts
    (none_staged c.args.group.now c.add.new.self c.requires.none (rw c.run_of-run.ensures.parts at c.add.ensures.added)
    c.add-2.new.self (rw c.run_of-run-2.ensures.parts at c.add-2.ensures.added)
    c.add-3.new.self (rw c.run_of-run-3.ensures.parts at c.add-3.ensures.added))

pub remove-requires-clause-held : goal.remove-requires-clause-held
remove-requires-clause-held g c =
    rw c.run_of-run-5.ensures.parts
    (held c.args.group.now c.add.new.self c.requires.none (rw c.run_of-run.ensures.parts at c.add.ensures.added)
    c.add-2.new.self (rw c.run_of-run-2.ensures.parts at c.add-2.ensures.added)
    c.add-3.new.self (rw c.run_of-run-3.ensures.parts at c.add-3.ensures.added)
    c.add-4.new.self (rw c.run_of-run-4.ensures.parts at c.add-4.ensures.added))
