use Rattle.cj_filter_tests.proofs.boxes.boxes_touch_up_to_the_threshold.Given as goal

abbrev pub ghosts-look : goal.ghosts-look
ghosts-look g a = record { name = a.blank.name; parts = a.blank.parts }
