use Rattle.lock_bench.proofs.kernels.run.Given as goal

abbrev pub ghosts-make_all : goal.ghosts-make_all
ghosts-make_all g a = record { name = a.blank.name; parts = a.blank.parts }
