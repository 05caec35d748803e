use Rattle.header_writer.proofs.checksum.+seen_sum.Given as goal

abbrev pub decreases-seen_sum : goal.decreases-seen_sum
decreases-seen_sum l = l.doubled
