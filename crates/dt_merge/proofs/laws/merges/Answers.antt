use Rattle.dt_merge.proofs.MergeLists.{merge_begins, merge_keeps, merge_of_none, merges_same}
use Rattle.dt_merge.proofs.MergeSums.{merge_sums}
use Rattle.dt_merge.proofs.MergesExist.{merge_exists}
use Rattle.dt_merge.proofs.laws.merges.Goals as goal

pub returns-clause-some : goal.returns-clause-some
returns-clause-some c kept each = merge_exists kept each

pub returns-clause-one : goal.returns-clause-one
returns-clause-one c kept a b m n = merges_same kept a b m n

pub returns-clause-own : goal.returns-clause-own
returns-clause-own c kept each merged m region = merge_keeps kept each merged m region

pub returns-clause-sums : goal.returns-clause-sums
returns-clause-sums c kept each merged m worth = merge_sums kept each merged m worth

pub returns-clause-none : goal.returns-clause-none
returns-clause-none c kept none = merge_of_none kept none

pub returns-clause-begins : goal.returns-clause-begins
returns-clause-begins c kept each region x rest there head least merged m = merge_begins kept each region x rest there head least merged m
