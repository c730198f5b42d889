use Rattle.container_trial.proofs.tests.graphs.a_graph_beside_a_list.Given as goal

abbrev pub ghosts-play : goal.ghosts-play
ghosts-play g a = record { name = a.blank.name; parts = a.blank.parts }
