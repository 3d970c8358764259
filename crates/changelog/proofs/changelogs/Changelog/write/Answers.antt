use Rattle.changelog.proofs.changelogs.Changelog.write.Goals as goal

pub returns-clause-any_moment : goal.returns-clause-any_moment
returns-clause-any_moment g c = rw c.self.view_is at c.append_all.ensures.any_moment
