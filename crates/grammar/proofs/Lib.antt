mod TableLaws
mod MachineLaws
mod WalkLaws
mod ReadLaws
