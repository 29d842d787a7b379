use Rattle.cj_filter_tests.proofs.boxes.fifty_boxes_in_a_row_touch_in_no_pair.Given as goal

abbrev pub ghosts-counted_in_row : goal.ghosts-counted_in_row
ghosts-counted_in_row g a = record { name = a.blank.name; parts = a.blank.parts }
