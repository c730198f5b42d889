-- Written types, without where they lie in memory.

-- a type as a program writes it
pub data Written : Type 0 where
  unit_type : Written
  bool_type : Written
  int_type : Written
  text_type : Written
  chan_type : Written → Written
  ref_type : Written → Written
  pair_type : Written → Written → Written
