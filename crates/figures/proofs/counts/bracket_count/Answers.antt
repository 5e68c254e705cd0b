use Rattle.std.proofs.Common.{refl}
use lib.Count.{ones}
use Rattle.figures.specs.Counts.{choose, bracket_count}
use Rattle.figures.proofs.Counting.{whole_counted}
use Rattle.figures.proofs.counts.bracket_count.Goals as goal

pub returns-in-2-clause-is_the_length_of_every_list_of_all_brackets : goal.returns-in-2-clause-is_the_length_of_every_list_of_all_brackets
unfolding ones bracket_count choose
returns-in-2-clause-is_the_length_of_every_list_of_all_brackets c = rw c.in-2.is (refl, whole_counted 2 1 _ refl refl)

pub returns-in-4-clause-is_the_length_of_every_list_of_all_brackets : goal.returns-in-4-clause-is_the_length_of_every_list_of_all_brackets
unfolding ones bracket_count choose
returns-in-4-clause-is_the_length_of_every_list_of_all_brackets c = rw c.in-4.is (refl, whole_counted 4 2 _ refl refl)

pub returns-in-8-clause-is_the_length_of_every_list_of_all_brackets : goal.returns-in-8-clause-is_the_length_of_every_list_of_all_brackets
unfolding ones bracket_count choose
returns-in-8-clause-is_the_length_of_every_list_of_all_brackets c = rw c.in-8.is (refl, whole_counted 8 3 _ refl refl)

pub returns-in-16-clause-is_the_length_of_every_list_of_all_brackets : goal.returns-in-16-clause-is_the_length_of_every_list_of_all_brackets
unfolding ones bracket_count choose
returns-in-16-clause-is_the_length_of_every_list_of_all_brackets c = rw c.in-16.is (refl, whole_counted 16 4 _ refl refl)
