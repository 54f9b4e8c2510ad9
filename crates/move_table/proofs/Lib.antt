mod Numbers
mod Examples
