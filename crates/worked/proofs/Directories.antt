-- Demand 2 has the statements on directories whose cases stand in crates/transfers (proofs/AtWork.antt), and none weaker. Assumes nothing.
use Rattle.transfers.specs.Directories.{DirectoryBegins, DirectoryBrings, DirectoryEnds, DirectoryBreaks}
use Rattle.promises.specs.Demand2.{Demand2}

module _ (d : Demand2) where
  pub begins : DirectoryBegins
  begins = d.directory_begins

  pub brings : DirectoryBrings
  brings = d.directory

  pub ends : DirectoryEnds
  ends = d.directory_ends

  pub breaks : DirectoryBreaks
  breaks = d.directory_breaks
