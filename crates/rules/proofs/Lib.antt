mod SeenLaws
mod DifferLaws
mod LookedLaws
